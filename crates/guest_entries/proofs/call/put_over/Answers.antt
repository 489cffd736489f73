use Rattle.guest_entries.proofs.call.put_over.Goals as goal

pub returns : goal.returns
returns c = λ kept x e. let r = c.drop_under.ensures kept x e in c.put_last.ensures _ r.0 r.1
