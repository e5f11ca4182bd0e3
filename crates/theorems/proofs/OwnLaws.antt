-- Each user has one vertex of their own in a layer, so that group vertices are vertices less users: what S1 and 7 count by.
-- Assumes nothing.
use Prim.Native.Nat.{ℕ, ◌+◌, ◌^◌, ◌≤◌, ◌<◌}
use mathlib.Core.Path.{◌≡◌, refl, sym, ap, ◌∙◌}
use mathlib.Core.Bool.{Bool, true, false, not}
use mathlib.Core.Logic.{◌↔◌}
use mathlib.Core.List.{List, [], ◌∷◌, ◌++◌, map, Memᴰ}
use mathlib.Core.Option.{some, none}
use native.Mathlib.Omega.{arith}
use lib.Dec.{eqb, ltb}
use lib.ListN.{length, length-map}
use borrow.Author.Tests.{eqb-true, eqb-false, eq-eqb, ne_eqb, ltb-true, ltb-false, lt-ltb, le-ltb, not-true}
use Rattle.sets.specs.Sets.{has, single, size}
use Rattle.rules.specs.Lists.{keep, pairwise, up_to}
use Rattle.rules.specs.Layer.{Layer}
use Rattle.rules.specs.Book.{Book}
use Rattle.rules.specs.Bytes.{Tables}
use Rattle.rules.specs.Sound.{sound, unequal, max_groups}
use Rattle.rules.specs.Requests.{Done}
use Rattle.rules.specs.Refusals.{verdict, short, common, Request, work, own, limits, refusal}
use Rattle.rules.specs.declared.Refusal.TheVariants.{GroupsFull, InnerTokensFull, OuterTokensFull, ShortList}
use Rattle.sets.proofs.Laws.{some-user, has-below, single-of-size, size-single, has-own, has-single}
use Rattle.theorems.proofs.ListLaws.{keep-mem, mem-keep, length-keep-split, apart-le, up_to-mem, mem-up_to, length-up_to, up_to-apart, pairwise_map, pairwise-keep}
use Rattle.theorems.proofs.LayerLaws.{Layered, map-mem, mem-map}
use Rattle.theorems.proofs.SoundLaws.{sound-counts, sound-kept}
use Rattle.theorems.proofs.RequestLaws.{Allowed, own-none, work-laws, common-passed, verdict-passed}
use Rattle.theorems.specs.Groups.{of_one, groups}

-- a set of one user names a user who has joined, and is that user's own
pub one-own : (n s : ℕ) → s < 2 ^ n → (of_one s ≡ true) ↔ ((u : ℕ) × (u < n) × (s ≡ single u))
unfolding of_one
one-own n s b = (there, back)
  where
    there : eqb (size s) 1 ≡ true → (u : ℕ) × (u < n) × (s ≡ single u)
    there e =
        let one : size s ≡ 1 = eqb-true (size s) 1 e in
        let (u, h) = some-user s (omega arith) in
        (u, has-below n s u b h, single-of-size s u one h)

    back : (u : ℕ) × (u < n) × (s ≡ single u) → eqb (size s) 1 ≡ true
    back (u, l, e) = eq-eqb (size s) 1 (ap size e ∙ size-single u)

-- ---- the layer

module _ (n : ℕ) (L : Layer) (g : Layered n L) where
  abbrev singles : List ℕ
  singles = map single (up_to n)

  singles-apart : pairwise unequal singles ≡ true
  unfolding unequal
  singles-apart =
      pairwise_map unequal unequal single (up_to n)
      (λ u v h. ap not (ne_eqb (single u) (single v) (λ e.
      eqb-false u v (not-true (eqb u v) h) (eqb-true u v (sym (has-single v u) ∙ ap (λ (s : ℕ). has s u) (sym e) ∙ has-own u)))))
      (up_to-apart n)

  -- one for each user
  pub own-count : length (keep of_one L.sets) ≡ n
  own-count =
      omega (
        arith,
        apart-le (keep of_one L.sets) singles (pairwise-keep unequal of_one L.sets g.apart) joined,
        apart-le singles (keep of_one L.sets) singles-apart there,
        length-map (up_to n) single,
        length-up_to n,
      )
    where
      joined : (s : ℕ) → Memᴰ s (keep of_one L.sets) → Memᴰ s singles
      joined s m =
          let (k, e) = keep-mem of_one L.sets m in
          let (u, l, q) = (one-own n s (g.sets< s k)).0 e in
          mathlib.Core.List.Memᴰ.cast q (mem-map single (up_to n) (mem-up_to n u l))

      there : (s : ℕ) → Memᴰ s singles → Memᴰ s (keep of_one L.sets)
      there s m =
          let (u, k, q) = map-mem single (up_to n) m in
          let o : Memᴰ s L.sets = mathlib.Core.List.Memᴰ.cast q (g.own u (up_to-mem n k)) in
          mem-keep of_one L.sets o ((one-own n s (g.sets< s o)).1 (u, up_to-mem n k, q))

  -- RULES 2.2 "any other vertex is a group vertex": group vertices are vertices less users
  pub groups-count : length (groups L) + n ≡ length L.sets
  unfolding groups
  groups-count = omega (arith, length-keep-split of_one L.sets, own-count)

-- ---- a sound book

module _ (b : Book) (h : sound b ≡ true) where
  -- RULES 2.1 "448 outer group vertices"
  pub outer-groups : length (groups b.outer) ≤ max_groups
  outer-groups = omega (arith, groups-count b.users b.outer (sound-kept b h).outer, (sound-counts b h).outer≤)

  -- RULES 2.3 "the inner group vertices are no more than the folders"
  pub inner-groups : length (groups b.inner) ≤ length b.resources
  inner-groups = omega (arith, groups-count b.users b.inner (sound-kept b h).inner, (sound-counts b h).inner≤)

-- ---- 7 "done on tables without limits, the request would leave more than 448 outer group vertices"

-- the test of 7, which counts all outer vertices, counts the groups that the request would leave
pub seven-counts-groups : (q : Request) (b : Book) → sound b ≡ true → Allowed q b
    → ltb ((work q b).book.users + max_groups) (length (work q b).book.outer.sets) ≡ ltb max_groups (length (groups (work q b).book.outer))
seven-counts-groups q b s a =
    let d = (work q b).book in
    less (length (groups d.outer)) d.users (length d.outer.sets) (groups-count d.users d.outer (work-laws q b s a).0.outer) (ltb max_groups (length (groups d.outer))) refl
  where
    less : (k n m : ℕ) → k + n ≡ m → (z : Bool) → ltb max_groups k ≡ z → ltb (n + max_groups) m ≡ z
    less k n m e true h = lt-ltb (n + max_groups) m (omega (arith, ltb-true max_groups k h))
    less k n m e false h = le-ltb (n + max_groups) m (omega (arith, ltb-false max_groups k h))

-- 7 is the first of 7 to 10
seven-first : (z x y w : Bool)
    → (verdict ((GroupsFull, z) ∷ (InnerTokensFull, x) ∷ (OuterTokensFull, y) ∷ (ShortList, w) ∷ []) ≡ some GroupsFull) ↔ (z ≡ true)
unfolding verdict
seven-first true x y w = (λ e. refl, λ e. refl)
seven-first false true y w = (λ e. cc, λ e. cc)
seven-first false false true w = (λ e. cc, λ e. cc)
seven-first false false false true = (λ e. cc, λ e. cc)
seven-first false false false false = (λ e. cc, λ e. cc)

-- so 7 is given exactly if these are more than 448, where 13, 12 and the request's own refusals are not given
pub seven-given : (t : Tables) (b : Book) (room : ℕ) (q : Request) → short t ≡ false → sound b ≡ true → verdict (own q b) ≡ none
    → (refusal t b room q ≡ some GroupsFull) ↔ (max_groups < length (groups (work q b).book.outer))
unfolding refusal common limits
seven-given t b room q l s o = (
  λ e. ltb-true max_groups (length (groups d.book.outer)) (sym counts ∙ (seven-first _ _ _ _).0 (sym judged ∙ e)),
  λ h. judged ∙ (seven-first _ _ _ _).1 (counts ∙ lt-ltb max_groups (length (groups d.book.outer)) h),
)
  where
    d : Done
    d = work q b

    judged : refusal t b room q ≡ verdict (limits room d)
    judged = common-passed t b (own q b ++ limits room d) l s ∙ verdict-passed (own q b) (limits room d) o

    counts : ltb (d.book.users + max_groups) (length d.book.outer.sets) ≡ ltb max_groups (length (groups d.book.outer))
    counts = seven-counts-groups q b s (own-none q b o)
