use Rattle.std.proofs.Common.{ℕ, ◌*◌, ◌≤◌, ◌≡◌, true, List, ◌∷◌, length, take}
use Rattle.std.specs.Slice.Iter.{chunks_exact_rest, chunks_exact_size}
use Rattle.std.specs.Iterator.Adapters.{zip_first, zip_second}
use Rattle.desk.specs.Output.{counts, never_more, texts, Gathered}
use Rattle.desk.proofs.output.print_block.Given as goal

abbrev pub invariant-loop-request : goal.invariant-loop-request
invariant-loop-request l =
    let requests = chunks_exact_rest (zip_first l.request-iterator) in
    let answers = chunks_exact_rest (zip_second l.request-iterator) in
    (goal.iterator-loop-request).can_next l.request-iterator
    × (goal.iterator-loop-request).is_finite l.request-iterator
    × (chunks_exact_size (zip_first l.request-iterator) ≡ 3)
    × (chunks_exact_size (zip_second l.request-iterator) ≡ 3)
    × (length answers ≤ length requests)
    × (counts answers * 3 ≤ length l.left)
    × (l.end ≤ length l.out)
    × (length l.out ≡ length l.initial.out)
    × (never_more answers ≡ true)
    × ((r : ℕ) (fin : List ℕ) → Gathered (take l.end l.out ∷ texts requests answers l.left) r fin → Gathered (take l.filled l.initial.out ∷ texts l.requests l.answers l.orders) r fin)
