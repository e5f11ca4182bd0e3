-- `plan::leave::leave_part` meets its contract: what is counted of the first r resources is what their revokes would add. Assumes nothing.
use mathlib.Core.Path.{◌≡◌, refl}
use native.Mathlib.Omega.{arith}
use Rattle.plan.proofs.LeaveLaws.{tallied-none, tallied-seen, tallied-step, tallied-all}
use Rattle.plan.proofs.leave.leave_part.Goals as goal

pub loop-r-init : goal.loop-r-init
loop-r-init c = tallied-none _ _ _ _ refl

pub invariant_of-l : goal.invariant_of-l
invariant_of-l c =
    let few = c.requires.resources_le_max_resources in
    record {
      seen_in = tallied-seen _ _ _ _ _ c.loop-r.invariant c.loop-r-test.true few.0 c.requires.bytes_in_bounds.0 c.requires.bytes_in_bounds.1 few.1 few.2;
    }

pub loop-r-preserved : goal.loop-r-preserved
loop-r-preserved c =
    let more = c.leaver_rows-more.ensures in
    tallied-step _ _ _ _ _ c.loop-r.invariant c.loop-r-test.true c.requires.resources_le_max_resources.0 more.value more.vertices_bound c.add-all.ensures

pub returns : goal.returns
returns c =
    let end : c.loop-r.r ≡ c.args.h.resources.0 = omega arith in
    let (value, few) = tallied-all _ _ _ _ _ c.loop-r.invariant end c.requires.resources_le_max_resources.0 in
    record { value = value; few = few }
