-- Who has left. A leaver opens nothing. A leave changes no other opening; and after any run of calls but reads in which it was accepted the leaver opens
-- nothing, by the book and by what a host has: no request lets them in again.
-- RULES 5.12, 12.3.
-- Assumes nothing.
use Rattle.std.specs.Prelude.{Result, Ok, Err}
use Prim.Native.Nat.{ℕ, ◌*◌, ◌<◌}
use mathlib.Core.Path.{◌≡◌, refl, sym, ap, ◌∙◌, subst}
use mathlib.Core.Bool.{Bool, true, false, ◌&&◌, not, true≢false, false≢true}
use mathlib.Core.Logic.{◌⊎◌, inl, inr, ◌↔◌, ◌≢◌}
use mathlib.Core.List.Memᴰ
use mathlib.Core.List.{List, [], ◌∷◌, ◌++◌, Memᴰ}
use mathlib.Core.Option.{none}
use lib.Dec.{eqb}
use native.Mathlib.Omega.{arith}
use lib.ListN.{length, drop, length-map}
use borrow.Author.Tests.{eqb-false, ne_eqb, not-true}
use Rattle.sets.specs.Sets.{has, single, minus, apart}
use Rattle.sets.proofs.Laws.{both, has-minus, has-single, has-own, has-union-left, has-union-right, apart-has}
use Rattle.rules.specs.Lists.{every}
use Rattle.rules.specs.Book.{Book, resource}
use Rattle.rules.specs.Sound.{sound}
use Rattle.rules.specs.Derivation.{Opens}
use Rattle.rules.specs.Requests.{leave}
use Rattle.rules.specs.Bytes.{Tables}
use Rattle.rules.specs.Refusals.{Request, joins, inserts, grants, revokes, leaves, work, refusal}
use Rattle.rules.specs.Calls.{change, Asked, changes, opens, nothing, asked_in, one, serve_call}
use Rattle.rules.specs.Runs.{Kept, book_of, Call, to-change, to-view, to-open, to-serve, to_read, to_write, to-show, after, run, Access, access, listed, Event, did, loads, told, did_change, did_one, did_all, did_serve, events, history}
use Rattle.rules.specs.Host.{HostOpens, store_of, obey_run, not_read}
use Rattle.rules.specs.declared.Head.{Head}
use Rattle.theorems.proofs.ListLaws.{every-mem, get_or-mem}
use Rattle.theorems.proofs.SoundLaws.{sound-present}
use Rattle.theorems.proofs.OpensLaws.{opens-list}
use Rattle.theorems.proofs.AccessLaws.{list_at, list_count, resources-of, leave-list, work-access}
use Rattle.theorems.proofs.RequestLaws.{accepted-sound, work-sound}
use Rattle.theorems.proofs.RunLaws.{run_sound, run-access}
use Rattle.rules.specs.declared.Applied.{Applied}
use Rattle.rules.specs.declared.Refusal.{Refusal}
use Rattle.rules.specs.declared.Served.{Served}
use Rattle.theorems.proofs.HostOpensLaws.{run-keys, run-host-opens}

-- ---- in a sound book

-- no list names a leaver
pub leaver-off : (b : Book) → sound b ≡ true → (u : ℕ) → has b.leavers u ≡ true → (r : ℕ) → r < length b.resources → has (resource b r).list u ≡ true → ⊥
unfolding access
leaver-off b h u g r l on =
    let a = every-mem (λ l. apart l b.leavers) (access b).lists (sound-present b h).apart' (get_or-mem (access b).lists r 0 (rw (list_count b) l)) in
    true≢false (sym g ∙ apart-has (resource b r).list b.leavers u (subst (λ (x : ℕ). apart x b.leavers ≡ true) (list_at b r) a) on)

-- "a leaver opens nothing"
pub leaver-shut : (b : Book) → sound b ≡ true → (u : ℕ) → has b.leavers u ≡ true → (r : ℕ) → r < length b.resources → Opens b u r → ⊥
leaver-shut b h u g r l o = leaver-off b h u g r l ((opens-list b h r l u).0 o)

-- ---- an accepted leave: every other opening stays

-- no folder is lost
there : (u : ℕ) (b : Book) (r : ℕ) → r < length b.resources → r < length (leave u b).book.resources
unfolding work listed
there u b r l =
    let e = resources-of (leave u b).book (listed (leaves u) (access b)) (work-access (leaves u) b) in
    omega (arith, e, list_count b, length-map (access b).lists (λ x. minus x (single u)))

pub leave-opens : (t : Tables) (b : Book) (room u : ℕ) → refusal t b room (leaves u) ≡ none → (r : ℕ) → r < length b.resources → (v : ℕ)
    → Opens (leave u b).book v r ↔ (Opens b v r × (v ≢ u))
unfolding work
leave-opens t b room u e r l v = (to, from)
  where
    now : Opens (leave u b).book v r ↔ (has (resource (leave u b).book r).list v ≡ true)
    now = opens-list (leave u b).book (work-sound t b room (leaves u) e) r (there u b r l) v

    old : Opens b v r ↔ (has (resource b r).list v ≡ true)
    old = opens-list b (accepted-sound t b room (leaves u) e) r l v

    listed-now : has (resource (leave u b).book r).list v ≡ (has (resource b r).list v && not (eqb v u))
    listed-now =
        ap (λ (x : ℕ). has x v) (leave-list u b r) ∙ has-minus (resource b r).list (single u) v
        ∙ ap (λ (z : Bool). has (resource b r).list v && not z) (has-single u v)

    to : Opens (leave u b).book v r → Opens b v r × (v ≢ u)
    to o =
        let (p, q) = both (has (resource b r).list v) (not (eqb v u)) (sym listed-now ∙ now.0 o) in
        (old.1 p, eqb-false v u (not-true (eqb v u) q))

    from : Opens b v r × (v ≢ u) → Opens (leave u b).book v r
    from (o, n) = now.1 (listed-now ∙ rw (old.0 o, ne_eqb v u n))

-- ---- for good

-- a request, and not a book that was read
abbrev is_did : Event → Bool
is_did (did q) = true
is_did (loads a) = false

-- requests alone
abbrev Plain : List Event → Type 0
Plain es = (e : Event) → Memᴰ e es → (q : Request) × (e ≡ did q)

none-plain : Plain []
none-plain e m = absurd (Memᴰ.not-nil m)

did-plain : (c : (Result Applied Refusal)) (q : Request) → Plain (did_change c q)
unfolding did_change
did-plain (Ok a) q e m = (q, Memᴰ.eq_of_singleton m)
did-plain (Err r) q e m = none-plain e m

both-plain : (es fs : List Event) → Plain es → Plain fs → Plain (es ++ fs)
both-plain es fs p q e m = go (Memᴰ.append_cases es m)
  where
    go : Memᴰ e es ⊎ Memᴰ e fs → (q : Request) × (e ≡ did q)
    go (inl n) = p e n
    go (inr n) = q e n

one_plain : (q : Asked) (h : Head) (t : Tables) (list : List ℕ) → Plain (did_one q h t list)
unfolding did_one
one_plain (changes q) h t list = did-plain (change q h t list).answer q
one_plain (opens u r) h t list = none-plain
one_plain nothing h t list = none-plain

all_plain : (qs : List Asked) (h : Head) (t : Tables) (list : List ℕ) → Plain (did_all qs h t list)
unfolding did_all
all_plain [] h t list = none-plain
all_plain (q ∷ qs) h t list =
    let o = one q h t list in
    let rest = drop (o.count * 3) o.orders in
    both-plain (did_one q h t list) (did_all qs o.head o.tables rest) (one_plain q h t list) (all_plain qs o.head o.tables rest)

serve-plain : (c : (Result Served Refusal)) (es : List Event) → Plain es → Plain (did_serve c es)
unfolding did_serve
serve-plain (Ok a) es k = k
serve-plain (Err r) es k = none-plain

call-plain : (c : Call) (s : Kept) → not_read c ≡ true → Plain (events c s)
unfolding events not_read
call-plain (to-change q list) s e = did-plain (change q s.head s.tables list).answer q
call-plain (to-view u r) s e = none-plain
call-plain (to-open u r list) s e = none-plain
call-plain (to-serve requests answers list) s e =
    serve-plain (serve_call requests s.head s.tables answers list).answer (did_all (asked_in requests) s.head s.tables list)
    (all_plain (asked_in requests) s.head s.tables list)
call-plain (to_read bs) s e = absurd (true≢false (sym e))
call-plain (to_write buffer) s e = none-plain
call-plain (to-show bs k) s e = none-plain

history-plain : (cs : List Call) (s : Kept) → every not_read cs ≡ true → Plain (history cs s)
unfolding every history
history-plain [] s e = none-plain
history-plain (c ∷ cs) s e =
    let (x, y) = both (not_read c) (every not_read cs) e in
    both-plain (events c s) (history cs (after c s)) (call-plain c s x) (history-plain cs (after c s) y)

-- no request takes anybody out of the leavers
listed-keeps : (q : Request) (a : Access) (u : ℕ) → has a.leavers u ≡ true → has (listed q a).leavers u ≡ true
unfolding listed
listed-keeps joins a u h = h
listed-keeps (inserts l) a u h = h
listed-keeps (grants r v) a u h = h
listed-keeps (revokes r v) a u h = h
listed-keeps (leaves v) a u h = has-union-left a.leavers (single v) u h

told-keeps : (es : List Event) → Plain es → (a : Access) (u : ℕ) → has a.leavers u ≡ true → has (told es a).leavers u ≡ true
unfolding told
told-keeps [] p a u h = h
told-keeps (did q ∷ es) p a u h = told-keeps es (λ e m. p e (Memᴰ.tail m)) (listed q a) u (listed-keeps q a u h)
told-keeps (loads c ∷ es) p a u h = absurd (false≢true (ap is_did (p (loads c) (Memᴰ.head refl)).1))

-- and a leave among the events puts u there
told-left : (es : List Event) → Plain es → (a : Access) (u : ℕ) → Memᴰ (did (leaves u)) es → has (told es a).leavers u ≡ true
unfolding told listed
told-left [] p a u x'' = elim x'' [ ]
told-left (e ∷ es) p a u (Memᴰ.head q) =
    subst (λ (x : Event). has (told (x ∷ es) a).leavers u ≡ true) q
    (told-keeps es (λ e m. p e (Memᴰ.tail m)) (listed (leaves u) a) u (has-union-right a.leavers (single u) u (has-own u)))
told-left (did q ∷ es) p a u (Memᴰ.tail m) = told-left es (λ e n. p e (Memᴰ.tail n)) (listed q a) u m
told-left (loads c ∷ es) p a u (Memᴰ.tail m) = told-left es (λ e n. p e (Memᴰ.tail n)) c u m

-- after any run of calls but reads
module _ (cs : List Call) (s : Kept) (n : every not_read cs ≡ true) (u : ℕ) where
  abbrev now : Book
  now = book_of (run cs s)

  pub run-keeps : has (book_of s).leavers u ≡ true → has now.leavers u ≡ true
  unfolding access
  run-keeps h = ap (λ (a : Access). has a.leavers u) (run-access cs s) ∙ told-keeps (history cs s) (history-plain cs s n) (access (book_of s)) u h

  -- in which a leave of u was accepted, by itself or among several requests
  module _ (left : Memᴰ (did (leaves u)) (history cs s)) where
    pub run-left : has now.leavers u ≡ true
    unfolding access
    run-left = ap (λ (a : Access). has a.leavers u) (run-access cs s) ∙ told-left (history cs s) (history-plain cs s n) (access (book_of s)) u left

    -- u opens nothing: by the book's keys and tokens
    pub left-for-good : sound (book_of s) ≡ true → (r : ℕ) → r < length now.resources → Opens now u r → ⊥
    left-for-good h r l o = leaver-shut now (run_sound cs s h) u run-left r l o

    -- and by what a host has that obeyed
    pub left-host : sound (book_of s) ≡ true → (r : ℕ) → r < length now.resources → HostOpens (obey_run cs s (store_of (book_of s))) u r → ⊥
    left-host h r l o = leaver-off now (run_sound cs s h) u run-left r l ((run-host-opens cs s n h r (subst (λ (m : ℕ). r < m) (sym (run-keys cs s n)) l) u).0 o)
