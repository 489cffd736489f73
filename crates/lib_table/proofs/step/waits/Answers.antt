use Rattle.std.proofs.Common.{sym, ap, ◌∙◌, ◌&&◌, is_none}
use Rattle.lib_table.specs.Outcome.{unreadable, word_at}
use Rattle.lib_table.proofs.WaitLemmas.{is_ok-refusal, waits-back, waits-call, waits-end}
use Rattle.lib_table.proofs.step.waits.Goals as goal

pub returns-then-function_waits : goal.returns-then-function_waits
returns-then-function_waits c =
    let l = c.args.library.now in
    let m = c.args.memory.now.memory in
    let ask = c.args.ask.now in
    let stood = sym (c.function_waits.ensures m (word_at m ask.rsp)) ∙ c.if-function_waits.true in
    let same = waits-call l m c.args.t ask c.in-Lib.function c.in-Lib.is ∙ ap (λ b. b && is_none (unreadable m ask.rsp 8)) stood in
    c.is_ok.ensures.value ∙ (is_ok-refusal c.check.result ∙ (ap is_none c.check.ensures ∙ sym same))

pub returns-else-function_waits : goal.returns-else-function_waits
returns-else-function_waits c =
    let l = c.args.library.now in
    let m = c.args.memory.now.memory in
    let ask = c.args.ask.now in
    let stood = sym (c.function_waits.ensures m (word_at m ask.rsp)) ∙ c.if-function_waits.false in
    c.if-function_waits.false ∙ sym (waits-call l m c.args.t ask c.in-Lib.function c.in-Lib.is ∙ ap (λ b. b && is_none (unreadable m ask.rsp 8)) stood)

pub returns-in-EndDoor : goal.returns-in-EndDoor
returns-in-EndDoor c = sym (waits-end c.args.library.now c.args.memory.now.memory c.args.t c.args.ask.now c.in-EndDoor.is)

pub returns-in-CallDoor : goal.returns-in-CallDoor
returns-in-CallDoor c = sym (waits-back c.args.library.now c.args.memory.now.memory c.args.t c.args.ask.now c.in-CallDoor.is)
