use Rattle.std.proofs.Common.{◌≡◌, ◌+◌, nat_lt, sym, ap, ◌∙◌}
use Rattle.x86_model.specs.Want.{want}
use Rattle.machine_model.specs.CaseData.{CaseData}
use Rattle.machine_model.specs.Serial.{by_want, is_missing}
use Rattle.machine_model.specs.Step.{privately}
use Rattle.serial_plain.specs.PlainSerial.{point_as}
use Rattle.serial_plain.proofs.SerialPlain.{rule_event, rule_limit, rule_miss, rule_most}
use Rattle.serial_plain.proofs.turns.rule_at.Goals as goal

pub returns-then-not-is_below : goal.returns-then-not-is_below
returns-then-not-is_below c =
    let below : nat_lt (c.args.walk.now.machine.steps + c.args.point.now.k) c.args.case.now.limit ≡ c.is_below.result = sym (c.is_below.ensures ∙ ap (λ (x : CaseData). nat_lt (c.args.walk.now.machine.steps + c.args.point.now.k) x.limit) c.case.view_is) in
    rule_limit c.args.case.now c.args.walk.now (point_as c.args.point.now) (below ∙ c.if-not-is_below.true)

pub returns-then-is_missing : goal.returns-then-is_missing
returns-then-is_missing c =
    let below : nat_lt (c.args.walk.now.machine.steps + c.args.point.now.k) c.args.case.now.limit ≡ c.is_below.result = sym (c.is_below.ensures ∙ ap (λ (x : CaseData). nat_lt (c.args.walk.now.machine.steps + c.args.point.now.k) x.limit) c.case.view_is) in
    let missing : is_missing c.args.case.now.image c.args.walk.now.gate.grown c.args.point.now.stand ≡ c.is_missing.result = sym (c.is_missing.ensures ∙ ap (λ i. is_missing i c.grown.result.now c.args.point.now.stand) c.image.ensures ∙ ap (λ g. is_missing c.args.case.now.image g c.args.point.now.stand) c.grown.ensures) in
    rule_miss c.args.case.now c.args.walk.now (point_as c.args.point.now) (below ∙ c.if-not-is_below.false) (missing ∙ c.if-is_missing.true)

pub returns-then-point-eq-MOST_PRIVATE : goal.returns-then-point-eq-MOST_PRIVATE
returns-then-point-eq-MOST_PRIVATE c =
    let below : nat_lt (c.args.walk.now.machine.steps + c.args.point.now.k) c.args.case.now.limit ≡ c.is_below.result = sym (c.is_below.ensures ∙ ap (λ (x : CaseData). nat_lt (c.args.walk.now.machine.steps + c.args.point.now.k) x.limit) c.case.view_is) in
    let missing : is_missing c.args.case.now.image c.args.walk.now.gate.grown c.args.point.now.stand ≡ c.is_missing.result = sym (c.is_missing.ensures ∙ ap (λ i. is_missing i c.grown.result.now c.args.point.now.stand) c.image.ensures ∙ ap (λ g. is_missing c.args.case.now.image g c.args.point.now.stand) c.grown.ensures) in
    rule_most c.args.case.now c.args.walk.now (point_as c.args.point.now) (below ∙ c.if-not-is_below.false) (missing ∙ c.if-is_missing.false) c.if-point-eq-MOST_PRIVATE.true

pub returns-in-None : goal.returns-in-None
returns-in-None c =
    let below : nat_lt (c.args.walk.now.machine.steps + c.args.point.now.k) c.args.case.now.limit ≡ c.is_below.result = sym (c.is_below.ensures ∙ ap (λ (x : CaseData). nat_lt (c.args.walk.now.machine.steps + c.args.point.now.k) x.limit) c.case.view_is) in
    let missing : is_missing c.args.case.now.image c.args.walk.now.gate.grown c.args.point.now.stand ≡ c.is_missing.result = sym (c.is_missing.ensures ∙ ap (λ i. is_missing i c.grown.result.now c.args.point.now.stand) c.image.ensures ∙ ap (λ g. is_missing c.args.case.now.image g c.args.point.now.stand) c.grown.ensures) in
    let wanted : c.privately.result ≡ privately (want c.args.case.now.image c.args.point.now.stand.cpu) = c.privately.ensures ∙ ap privately (c.next_want.ensures ∙ ap (λ i. want i c.cpu_of.result) c.image-2.ensures ∙ ap (want c.args.case.now.image) c.cpu_of.ensures) in
    ap by_want (sym c.in-None.is) ∙ rule_event c.args.case.now c.args.walk.now (point_as c.args.point.now) c.privately.result (below ∙ c.if-not-is_below.false) (missing ∙ c.if-is_missing.false) c.if-point-eq-MOST_PRIVATE.false wanted

pub returns-in-Some : goal.returns-in-Some
returns-in-Some c =
    let below : nat_lt (c.args.walk.now.machine.steps + c.args.point.now.k) c.args.case.now.limit ≡ c.is_below.result = sym (c.is_below.ensures ∙ ap (λ (x : CaseData). nat_lt (c.args.walk.now.machine.steps + c.args.point.now.k) x.limit) c.case.view_is) in
    let missing : is_missing c.args.case.now.image c.args.walk.now.gate.grown c.args.point.now.stand ≡ c.is_missing.result = sym (c.is_missing.ensures ∙ ap (λ i. is_missing i c.grown.result.now c.args.point.now.stand) c.image.ensures ∙ ap (λ g. is_missing c.args.case.now.image g c.args.point.now.stand) c.grown.ensures) in
    let wanted : c.privately.result ≡ privately (want c.args.case.now.image c.args.point.now.stand.cpu) = c.privately.ensures ∙ ap privately (c.next_want.ensures ∙ ap (λ i. want i c.cpu_of.result) c.image-2.ensures ∙ ap (want c.args.case.now.image) c.cpu_of.ensures) in
    ap by_want (sym c.in-Some.is) ∙ rule_event c.args.case.now c.args.walk.now (point_as c.args.point.now) c.privately.result (below ∙ c.if-not-is_below.false) (missing ∙ c.if-is_missing.false) c.if-point-eq-MOST_PRIVATE.false wanted
