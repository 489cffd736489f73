use Rattle.std.proofs.Common.{◌≡◌, true, sym, ◌∙◌}
use Rattle.x86_forms.specs.Spelling.{are_bytes}
use Rattle.x86_forms.proofs.LawLemmas.{exactly, bytes_are}
use Rattle.x86_decode.proofs.Decoding.{none_spelled}
use Rattle.x86_decode.proofs.reading.decode.Goals as goal

pub returns-clause-exact : goal.returns-clause-exact
returns-clause-exact c i n le =
    let all : are_bytes c.args.bytes.now ≡ true = bytes_are c.args.bytes.now (λ k. (c.type_inv.bytes k).fits) in
    let e = exactly c.args.bytes.now i n all le in
    (λ h. e.0 (sym c.read.ensures.value ∙ h), λ s. c.read.ensures.value ∙ e.1 s)

pub returns-clause-nothing : goal.returns-clause-nothing
returns-clause-nothing c none n =
    none_spelled c.args.bytes.now (bytes_are c.args.bytes.now (λ k. (c.type_inv.bytes k).fits)) (sym c.read.ensures.value ∙ none) n
