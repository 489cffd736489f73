use Rattle.std.proofs.Common.{◌+◌, sym, ap, ◌∙◌, ℕ, take, drop, Ok}
use Rattle.words_line.specs.declared.plan.Plan.{Plan}
use Rattle.clap.specs.Words.{fault_of, is_simple_and_free, matches_of}
use Rattle.words_line.specs.Commands.{dashes_at, row_of, texts}
use Rattle.words_line.specs.Plans.{given}
use Rattle.words_line.proofs.WordLemmas.{each_simple, line_read, plan_line, plan_refused}
use Rattle.words_line.proofs.words.read_line.Goals as goal

pub returns-then-is_refused-clause-answer : goal.returns-then-is_refused-clause-answer
returns-then-is_refused-clause-answer c = plan_refused (row_of c.args.kind) (texts c.args.words.now) (sym c.is_refused.ensures ∙ c.if-is_refused.true)

pub parse-requires : goal.parse-requires
parse-requires c = ap is_simple_and_free c.in-Ok.ensures ∙ each_simple c.args.kind

pub returns-in-Ok-plan-clause-answer : goal.returns-in-Ok-plan-clause-answer
returns-in-Ok-plan-clause-answer c =
    let ws = texts c.args.words.now in
    let row = row_of c.args.kind in
    let line = take (dashes_at ws) ws in
    let args = drop (dashes_at ws + 1) ws in
    let same_line = c.split_at_dashes.ensures.front ∙ ap (λ (n : ℕ). take n ws) c.dashes_at-at.ensures.place in
    let same_args = c.split_at_dashes.ensures.back ∙ ap (λ (n : ℕ). drop (n + 1) ws) c.dashes_at-at.ensures.place in
    let same_app = c.in-Ok.ensures in
    let no_fault = (λ i. fault_of (sym same_app i) (sym same_line i)) ∙ c.in-Ok-parse.ensures.ok in
    let same_rows = c.in-Ok-parse.ensures.rows ∙ (λ i. matches_of (same_app i) (same_line i)) in
    let same_plan = c.in-Ok-plan.ensures.plan ∙ (λ i. row.plan (same_args i) (given (same_rows i))) in
    plan_line row ws (sym c.is_refused.ensures ∙ c.if-is_refused.false) ∙ line_read row.app line (row.plan args) no_fault ∙ ap (λ (p : Plan). Ok p) (sym same_plan)
