use Rattle.std.proofs.Common.{sym, ap, ◌∙◌}
use Rattle.lib_table.specs.Row.{function_row, is_waiting}
use Rattle.lib_table.proofs.WaitLemmas.{lock-waits, others-stay}
use Rattle.lib_table.proofs.step.function_waits.Goals as goal

pub returns-in-MutexLock : goal.returns-in-MutexLock
returns-in-MutexLock c = λ m back. c.is_held.ensures ∙ sym (ap (λ f. is_waiting (function_row f c.args.library.now m c.args.t c.args.ask.now back)) c.in-MutexLock.is ∙ lock-waits c.args.library.now m c.args.t c.args.ask.now back)

pub returns-in_default : goal.returns-in_default
returns-in_default c = λ m back. sym (others-stay c.args.function c.args.library.now m c.args.t c.args.ask.now back c.in_default.not-PthreadJoin c.in_default.not-MutexLock c.in_default.not-CondInit c.in_default.not-CondDestroy c.in_default.not-CondWait c.in_default.not-CondSignal c.in_default.not-CondBroadcast c.in_default.not-BarrierInit c.in_default.not-BarrierWait c.in_default.not-BarrierDestroy c.in_default.not-Once)
