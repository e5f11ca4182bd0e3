-- `desk::answer_block` meets its contract. Assumes nothing.
use Rattle.std.proofs.Common.{refl}
use Rattle.desk.proofs.AnswerLaws.{serve-told}
use Rattle.desk.proofs.GoesLaws.{printed-answers}
use Rattle.desk.proofs.answer_block.Goals as goal

pub returns-clause-block_answered : goal.returns-clause-block_answered
returns-clause-block_answered c =
    let serve = c.serve_block-served in
    let print = c.in_ok-filled.ensures in
    let told = serve-told _ _ _ _ _ c.requires.ready c.requires.enough serve.ensures.orders_after in
    record {
      ready = serve.ensures.answered.serves;
      unread≡ = refl;
      filled = print.filled;
      going = refl;
      answers = printed-answers _ _ _ _ _ _ print.gathered told.0 _ (told.1 _ _ refl);
    }
