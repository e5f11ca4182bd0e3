-- `desk::main` is safe and ends: the program starts from the empty book. Assumes nothing.
use Rattle.std.proofs.Common.{[], true, refl, sym, ◌∙◌, arith}
use Rattle.desk.proofs.TurnLaws.{fresh-ready}
use Rattle.desk.proofs.GoesLaws.{mode-whole, mode-begins}
use Rattle.desk.proofs.main.Goals as goal

pub answer_all-requires : goal.answer_all-requires
answer_all-requires c =
    let first = c.in-Ok.ensures.first_read in
    let so-far = first.so_far in
    let taken = c.in-Some.taken in
    let names = sym c.in-Some.is ∙ c.take_mode.ensures.value in
    let empty = c.empty_head in
    record {
      ready = fresh-ready _ _ _ _ _ (sym c.zeros-inner_vertices.ensures) (sym c.zeros-inner_tokens.ensures) (sym c.zeros-outer_vertices.ensures) (sym c.zeros-outer_tokens.ensures) (sym c.zeros-resources.ensures) _ c.in-Some.ensures.moded empty.ensures;
      within = c.in-Some.ensures.within;
      last = mode-whole _ _ so-far taken names;
      long = omega (arith, c.read_first.auto.input, c.zeros-input.ensures);
      none = refl;
      going = refl;
      begun = record { came = so-far.came; begins = mode-begins _ _ so-far taken names (record { head = empty.result; unread = taken.unread; filled = 0; going = true }) _ [] empty.ensures refl refl };
    }
