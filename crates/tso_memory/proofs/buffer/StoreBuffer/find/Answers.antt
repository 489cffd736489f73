use Rattle.std.proofs.Common.{◌+◌, ◌-◌, ◌<◌, List, sym, subst, ◌∙◌, arith}
use Rattle.std.specs.Int.{byte_at}
use Rattle.tso_memory.specs.declared.write.PendingWrite.{PendingWrite}
use Rattle.tso_memory.specs.Buffer.{seen, size_of}
use Rattle.tso_memory.specs.Numbers.{IsNumbered}
use Rattle.tso_memory.proofs.MemoryLemmas.{number_from-same}
use Rattle.tso_memory.proofs.buffer.StoreBuffer.find.Goals as goal

pub returns-in-Some-number : goal.returns-in-Some-number
returns-in-Some-number c =
    let ps = c.args.self.now in
    let p = c.in-Some.write in
    let n = size_of c.args.width in
    let numbered : IsNumbered ps c.self.inside.numbers.first c.self.inside.numbers.newest.items = subst (λ (qs : List PendingWrite). IsNumbered qs c.self.inside.numbers.first c.self.inside.numbers.newest.items) c.self.view_is c.self.invariant.1 in (
      c.in-Some-number.ensures.fits,
      λ f. c.in-Some-number.ensures.number ∙ number_from-same n (λ x. byte_at (x - p.at) p.value) (λ x. seen ps x (f x)) c.args.a (λ x from to.
          let near : x < c.args.a + c.size-size.result = omega (arith, c.size-size.ensures) in
          sym (sym (c.reach-reach.ensures.seen ps numbered x (f x) from near) ∙ c.in-Some.ensures.some x (f x) from near (c.in-Some-number.ensures.all x from to))),
    )
