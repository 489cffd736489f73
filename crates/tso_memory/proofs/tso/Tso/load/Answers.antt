use Rattle.std.proofs.Common.{◌≡◌, ℕ, ◌+◌, ◌<◌, ◌≤◌, List, [], sym, ap, ◌∙◌, arith}
use Rattle.std.proofs.lemmas.List.{get_or_default}
use Rattle.std.proofs.lemmas.Result.{IfOk-weaker}
use Rattle.tso_memory.specs.declared.write.PendingWrite.{PendingWrite}
use Rattle.tso_memory.specs.Buffer.{seen, size_of}
use Rattle.tso_memory.specs.Memory.{Memory, byte_of, number_from}
use Rattle.tso_memory.specs.Tso.{TsoState, buffer_of, seen_by}
use Rattle.tso_memory.proofs.MemoryLemmas.{number_from-same}
use Rattle.tso_memory.proofs.tso.Tso.load.Goals as goal

pub returns-in-Nothing-clause-value : goal.returns-in-Nothing-clause-value
returns-in-Nothing-clause-value c =
    let s = c.args.self.now in
    let t = c.args.t in
    let own : c.index-buffer.result.now ≡ buffer_of s t =
    c.index-buffer.ensures ∙ (get_or_default c.self.inside.buffers.items t c.index-buffer.result.now [] (omega (arith, c.self.invariant)) ∙ ap (λ (z : TsoState). buffer_of z t) c.self.view_is) in
    let memory : c.self.inside.space ≡ s.memory = ap (λ (z : TsoState). z.memory) c.self.view_is in
    let same : (y : ℕ) → c.args.a ≤ y → y < c.args.a + size_of c.args.width → byte_of c.self.inside.space y ≡ seen_by s t y = λ y from to.
    ap (λ (m : Memory). byte_of m y) memory
    ∙ sym (ap (λ (ps : List PendingWrite). seen ps y (byte_of s.memory y)) (sym own) ∙ c.in-Nothing.ensures y (byte_of s.memory y) from to) in
    IfOk-weaker c.read.result _ _ (λ v h. h ∙ number_from-same (size_of c.args.width) (byte_of c.self.inside.space) (seen_by s t) c.args.a same) c.read.ensures.value

pub returns-in_ok-check-in-Number-clause-value : goal.returns-in_ok-check-in-Number-clause-value
returns-in_ok-check-in-Number-clause-value c =
    let s = c.args.self.now in
    let t = c.args.t in
    let own : c.index-buffer.result.now ≡ buffer_of s t =
    c.index-buffer.ensures ∙ (get_or_default c.self.inside.buffers.items t c.index-buffer.result.now [] (omega (arith, c.self.invariant)) ∙ ap (λ (z : TsoState). buffer_of z t) c.self.view_is) in
    c.in-Number.ensures.1 (byte_of s.memory) ∙ ap (λ (ps : List PendingWrite). number_from (λ x. seen ps x (byte_of s.memory x)) (size_of c.args.width) c.args.a) own
