use Rattle.machine_model.proofs.Own as own
use Rattle.machine_model.proofs.own_laws.entries_are_made.Goals as goal

pub returns-clause-made : goal.returns-clause-made
returns-clause-made c = own.made_told

pub returns-clause-advances : goal.returns-clause-advances
returns-clause-advances c = own.advance_made

pub returns-clause-private : goal.returns-clause-private
returns-clause-private c = own.steps_private

pub returns-clause-whole : goal.returns-clause-whole
returns-clause-whole c = own.whole_from
