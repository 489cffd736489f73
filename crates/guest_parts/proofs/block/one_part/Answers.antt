use Rattle.std.proofs.Common.{◌≡◌, ◌+◌, ◌<◌, ◌≤◌, length, get_or, Some, sym, ap, arith}
use Rattle.guest_parts.proofs.block.one_part.Goals as goal
use Rattle.guest_parts.proofs.Runs.{ran_on, ran_out, ran_typed}
use Rattle.guest_parts.specs.Running.{leads_to}

pub returns-then-part-parts-clause-step : goal.returns-then-part-parts-clause-step
returns-then-part-parts-clause-step g c =
    let at : c.index-parts-part.result ≡ get_or c.args.block.now.parts c.args.part c.index-parts-part.result = cc in
    let to : leads_to c.args.block.now c.run-request.result ≡ Some c.in-Some.to = sym c.in-Some.ensures in
    let len = ap length c.as_slice-parts.ensures in
    let lt : c.args.part + 1 < length c.args.block.now.parts = omega (arith, len) in
    λ image grown last d s. ran_on image grown c.args.block.now c.args.part last c.in-Some.to c.index-parts-part.result c.run-request.result c.args.state.now c.run-request.new.state d c.goes_on_after_its_bytes.ensures at c.run-request.ensures.request c.run-request.ensures.state to lt s

pub returns-then-part-parts-clause-leaves : goal.returns-then-part-parts-clause-leaves
returns-then-part-parts-clause-leaves g c =
    let at : c.index-parts-part.result ≡ get_or c.args.block.now.parts c.args.part c.index-parts-part.result = cc in
    let to : leads_to c.args.block.now c.run-request.result ≡ Some c.in-Some.to = sym c.in-Some.ensures in
    let len = ap length c.as_slice-parts.ensures in
    (omega (arith, len), omega (arith, len), ran_typed c.args.block.now c.args.part c.in-Some.to c.index-parts-part.result c.run-request.result c.args.state.now c.run-request.new.state c.requires.inside at c.run-request.ensures.request c.run-request.ensures.state to c.requires.typed)

pub returns-else-part-parts-clause-step : goal.returns-else-part-parts-clause-step
returns-else-part-parts-clause-step g c =
    let at : c.index-parts-part.result ≡ get_or c.args.block.now.parts c.args.part c.index-parts-part.result = cc in
    let to : leads_to c.args.block.now c.run-request.result ≡ Some c.in-Some.to = sym c.in-Some.ensures in
    let len = ap length c.as_slice-parts.ensures in
    let le : length c.args.block.now.parts ≤ c.args.part + 1 = omega (arith, len) in
    λ image grown last d s. ran_out image grown c.args.block.now c.args.part last c.in-Some.to c.index-parts-part.result c.run-request.result c.args.state.now c.run-request.new.state d c.goes_on_after_its_bytes.ensures at c.run-request.ensures.request c.run-request.ensures.state to le s
