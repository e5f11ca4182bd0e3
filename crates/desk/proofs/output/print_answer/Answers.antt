-- `desk::output::print_answer` meets its contract. Assumes nothing.
use Rattle.std.proofs.Common.{◌≡◌, true, false, arith, rules}
use Rattle.std.specs.Prelude.{None}
use Rattle.std.specs.Result.{result_ok}
use Rattle.desk.proofs.Laws.{some-by, put-within}
use Rattle.desk.proofs.PrintLaws.{print-behind, print-stuck, print-front, print-never}
use Rattle.desk.proofs.output.print_answer.Goals as goal

pub returns-in-Some-clause-filled : goal.returns-in-Some-clause-filled
returns-in-Some-clause-filled c =
    put-within c.args.number c.args.view c.args.rows.now c.args.out.now c.args.filled c.requires.filled_in_bounds c.in-Some.is c.put_answer.ensures

pub returns-in-Some-clause-prints : goal.returns-in-Some-clause-prints
returns-in-Some-clause-prints c =
    record { written = true; leaves = print-behind c.args.number c.args.view c.args.rows.now c.args.out.now c.args.filled c.in-Some.is c.put_answer.ensures }

pub returns-in_err-write_out-clause-prints : goal.returns-in_err-write_out-clause-prints
returns-in_err-write_out-clause-prints c =
    let failed : result_ok c.from_residual.result ≡ None = search rules in
    record {
      written = false;
      leaves = rw failed (print-stuck c.args.number c.args.view c.args.rows.now c.args.out.now c.args.filled c.in_default.is c.put_answer.ensures);
    }

pub unwrap-requires : goal.unwrap-requires
unwrap-requires c =
    some-by c.put_answer-2.result
    (λ e. print-never c.args.number c.args.view c.args.rows.now c.args.out.now c.args.filled c.in_default.is c.put_answer.ensures c.requires.out_value e c.put_answer-2.ensures)

pub returns-clause-filled : goal.returns-clause-filled
returns-clause-filled c = put-within c.args.number c.args.view c.args.rows.now c.put_answer.new.out 0 (omega arith) c.unwrap.ensures c.put_answer-2.ensures

pub returns-clause-prints : goal.returns-clause-prints
returns-clause-prints c =
    record {
      written = true;
      leaves = print-front c.args.number c.args.view c.args.rows.now c.args.out.now c.args.filled c.in_default.is c.put_answer.ensures c.unwrap.ensures c.put_answer-2.ensures;
    }
