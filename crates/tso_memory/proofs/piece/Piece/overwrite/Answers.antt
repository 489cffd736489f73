use Rattle.tso_memory.proofs.PieceLemmas.{piece_overwritten}
use Rattle.tso_memory.proofs.piece.Piece.overwrite.Goals as goal

pub returns : goal.returns
returns c = piece_overwritten _ c.args.self.now c.self.inside.bytes.len c.args.place c.args.with.now c.deref_mut.result.now c.overwrite.new.bytes c.self.view_is c.deref_mut.ensures.value c.overwrite.ensures.size c.deref_mut.ensures.len c.overwrite.ensures.after
