use Rattle.std.proofs.Common.{inl, refl, ap}
use Rattle.std.proofs.lemmas.Option.{none-some}
use Rattle.machine_model.specs.Gated.{Spot}
use Rattle.thread_step.proofs.Starting.{newborn_first}
use Rattle.thread_step.proofs.guest.Guest.make.Goals as goal

pub returns-clause-ready : goal.returns-clause-ready
returns-clause-ready c = record {
  stands = record {
    low = c.requires.low;
    begun = λ t going lives is. absurd (none-some t is);
    new = λ t going lives other. newborn_first c.args.hall.now c.args.slot t c.requires.first lives;
    told = λ going alone. refl;
    none = λ going alone. c.in_ok-make.ensures;
    born = λ t going is. absurd (none-some t is);
  };
  grown = λ t going lives. inl (ap (λ (s : Spot). s.latest) (newborn_first c.args.hall.now c.args.slot t c.requires.first lives).spot);
}
