-- What a read leaves of what came. Assumes nothing.
use Prim.Native.Nat.{ℕ, ◌+◌, ◌-◌, ◌≤◌, ◌<◌, min}
use mathlib.Core.List.{List, [], ◌++◌}
use mathlib.Core.Path.{◌≡◌, refl, sym, ap, ◌∙◌}
use native.Mathlib.Omega.{arith}
use lib.ListN.{length, take, drop, length-append, length-take, length-drop}
use Rattle.std.proofs.lemmas.List.{take_min}
use lib.Seq.{take-nil, take_all, take-add, take-append-le, length-take-le}
use borrow.Rule.Slice.PartMut.{put_mid, take_put, same_len_mid}
use Rattle.std.proofs.Math.Seq.{drop-append_seam}
use Rattle.std.specs.Prelude.{Result, Ok, Err, IfOk}
use Rattle.std.specs.Io.{ReadsAtMost}
use Rattle.std.specs.Io.KnownBytes.{Consumes, IsAtEnd, ReadConsumes}
use Rattle.std.proofs.KnownBytes.{Consumes-nil, Consumes-trans}
use Rattle.rows.proofs.Part.{part-back}
use Rattle.inspect.specs.Input.{longest, Left, Holds, Reads, SoFar, AllCame}

-- what a read says where it did not fail
pub if-read : {E : Type 0} (left rest : Left) (part : List ℕ) (P : ℕ → Type 0) (r : Result ℕ E) → ReadsAtMost r part → ReadConsumes left rest r part
    → ((n : ℕ) → n ≤ length part → Consumes left rest (take n part) → (n ≡ 0 → 0 < length part → IsAtEnd rest) → P n) → IfOk r P
if-read left rest part P (Ok n) fits gives p = p n fits.0 gives.0 gives.1
if-read left rest part P (Err e) fits gives p = tt

-- at the start nothing came
pub none-came : (input : List ℕ) (left : Left) → SoFar 0 input left left
none-came input left = record { came = []; holds = record { front = sym (take-nil (length input)); whole = refl }; given = Consumes-nil left }

-- where the buffer has room, all that came is kept
pub holds-all : (total : ℕ) (input came : List ℕ) → Holds total input came → total < length input → came ≡ take total input
holds-all total input came h room = sym (h.front ∙ take_all (length input) came (omega (arith, h.whole)))

-- one read more, into what room there is
pub front-read : (total n : ℕ) (input part : List ℕ) (left rest : Left) → total < length input → length part ≡ length input - total → n ≤ length part
    → Consumes left rest (take n part) → (n ≡ 0 → 0 < length part → IsAtEnd rest)
    → Reads total n input (put_mid total (length input - total) input part) left rest
front-read total n input part left rest room size fits gives end =
    let now = put_mid total (length input - total) input part in
    let more = take n part in
    let old : take total now ≡ take total input = take_put total (length input - total) input part (omega arith) in
    let behind : drop total now ≡ part =
    ap (drop total) (part-back total input part) ∙ ap (λ (k : ℕ). drop k (take total input ++ part)) (sym (length-take-le total input (omega arith)))
    ∙ drop-append_seam (take total input) part in
    let same : length now ≡ length input = same_len_mid total (length input - total) input part (simp (length-take, length-drop) (omega arith)) in
    let long : length more ≡ n = length-take-le n part fits in
    record {
      more = more;
      count = long;
      holds = λ came h.
          let all : came ≡ take total input = holds-all total input came h room in
          record {
            front = take-add total n now ∙ ap (λ (l : List ℕ). l ++ take n (drop total now)) (old ∙ sym all) ∙ ap (λ (l : List ℕ). came ++ take n l) behind
                ∙ sym (take_all (length now) (came ++ more) (omega (arith, length-append came more, h.whole)));
            whole = omega (arith, length-append came more, h.whole);
          };
      gives = gives;
      last = λ none. end none (omega arith);
    }

-- and where there is none
pub past-read : (total n : ℕ) (input spare : List ℕ) (left rest : Left) → length input ≤ total → n ≤ length spare → 0 < length spare
    → Consumes left rest (take n spare) → (n ≡ 0 → 0 < length spare → IsAtEnd rest) → Reads total n input input left rest
past-read total n input spare left rest full fits some gives end =
    let more = take n spare in
    let long : length more ≡ n = length-take-le n spare fits in
    record {
      more = more;
      count = long;
      holds = λ came h.
          record {
            front = take_all (total + n) input (omega arith) ∙ sym (take_all total input full) ∙ h.front ∙ sym (take-append-le (length input) came more (omega (arith, h.whole)));
            whole = omega (arith, length-append came more, h.whole);
          };
      gives = gives;
      last = λ none. end none some;
    }

pub came-more : (total n sum : ℕ) (input now : List ℕ) (left mid rest : Left) → sum ≡ total + n → SoFar total input left mid → Reads total n input now mid rest
    → SoFar sum now left rest
came-more total n sum input now left mid rest e a r =
    record { came = a.came ++ r.more; holds = rw e (r.holds a.came a.holds); given = Consumes-trans left mid rest a.came r.more a.given r.gives }

-- the last read brought nothing
pub came-all : (total n : ℕ) (input now : List ℕ) (left mid rest : Left) → n ≡ 0 → SoFar total input left mid → Reads total n input now mid rest → AllCame total now left rest
came-all total n input now left mid rest none a r =
    record { so_far = came-more total n total input now left mid rest (omega (arith, none)) a r; ended = r.last none }

-- ---- the front of all that came

module _ (total : ℕ) (input came : List ℕ) (h : Holds total input came) where
  pub front-is : length input ≡ longest + 1 → take (min total (length input)) input ≡ take (longest + 1) came
  front-is e = take_min total input ∙ h.front ∙ ap (λ (n : ℕ). take n came) e

  pub front-short : length (take (min total (length input)) input) ≤ total
  front-short = omega (arith, length-take (min total (length input)) input)
