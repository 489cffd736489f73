use Rattle.std.proofs.Common.{sym, ◌∙◌, []}
use Rattle.std.proofs.lemmas.List.{append-nil}
use Rattle.journal_pack.specs.Entry.{spelling}
use Rattle.journal_pack.proofs.EntryLemmas.{same_entry}
use Rattle.journal_pack.proofs.no_prefix.Goals as goal

pub returns : goal.returns
returns c = λ d e tail hd he s. same_entry d e tail [] hd he (sym s ∙ sym (append-nil (spelling e)))
