-- `desk::block::serve_block` meets its contract. Assumes nothing.
use Rattle.desk.proofs.BlockLaws.{block-served}
use Rattle.desk.proofs.TurnLaws.{serves-ok}
use Rattle.desk.proofs.block.serve_block.Goals as goal

pub unwrap-requires : goal.unwrap-requires
unwrap-requires c =
    serves-ok _ c.serve.result (block-served _ _ _ _ _ c.requires.ready c.requires.enough c.serve.ensures.value).serves

pub returns-clause-answered : goal.returns-clause-answered
returns-clause-answered c =
    rw (← c.unwrap.ensures) (block-served _ _ _ _ _ c.requires.ready c.requires.enough c.serve.ensures.value)
