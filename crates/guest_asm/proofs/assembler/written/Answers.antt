use Rattle.std.proofs.Common.{sym, ap, subst, ◌∙◌}
use Rattle.x86_forms.specs.Spelling.{Spells, bytes_of}
use Rattle.guest_asm.specs.Pieces.{parts_of}
use Rattle.guest_asm.proofs.Made.{made}
use Rattle.guest_asm.proofs.assembler.written.Goals as goal

pub returns-clause-spells : goal.returns-clause-spells
returns-clause-spells c =
    let written = made c.args.no_rex c.args.instr c.typed.ensures c.requires in
    subst (λ s. Spells c.args.instr s) (sym (c.in_ok-bytes.ensures ∙ ap (λ q. bytes_of (parts_of q)) c.pieces.ensures)) written

pub returns-clause-usual : goal.returns-clause-usual
returns-clause-usual c = c.in_ok-bytes.ensures ∙ ap (λ q. bytes_of (parts_of q)) c.pieces.ensures
