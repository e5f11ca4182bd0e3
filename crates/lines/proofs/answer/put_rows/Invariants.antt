use Rattle.std.proofs.Common.{ℕ, ◌+◌, ◌*◌, ◌/◌, ◌≤◌, ◌≡◌, List, length}
use Rattle.std.specs.Slice.Iter.{chunks_exact_rest, chunks_exact_size}
use Rattle.lines.specs.Answer.{rows_text, Puts}
use Rattle.lines.proofs.answer.put_rows.Given as goal

abbrev pub invariant-loop-row : goal.invariant-loop-row
invariant-loop-row l =
    (chunks_exact_size l.row-iterator ≡ 3)
    × (length l.out ≡ length l.initial.out)
    × (l.end + 18 * (length (chunks_exact_rest l.row-iterator) / 3) ≤ length l.initial.out)
    × ((r : ℕ) (now : List ℕ) → Puts (rows_text (chunks_exact_rest l.row-iterator)) l.end l.out r now → Puts (rows_text l.rows) l.at l.initial.out r now)
