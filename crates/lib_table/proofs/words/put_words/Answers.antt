use Rattle.std.proofs.Common.{◌≡◌, sym, ap, ◌∙◌}
use Rattle.byteorder.specs.Endian.{little_bytes}
use Rattle.tso_memory.specs.Tso.{TsoState}
use Rattle.lib_table.specs.Outcome.{unwritable}
use Rattle.lib_table.specs.Words.{either, with_word}
use Rattle.lib_table.proofs.WordLemmas.{never_err, unwritable-put}
use Rattle.lib_table.proofs.words.put_words.Goals as goal

pub returns-clause-rights : goal.returns-clause-rights
returns-clause-rights c =
    let m = c.args.memory.now.memory in
    let a = c.args.first.0 in
    let b = c.args.second.0 in
    let same : c.put_word.new.memory ≡ with_word c.args.memory.now a c.args.first.1 = c.in_ok-put_word.ensures.ok in
    c.put_word-2.ensures.rights
    ∙ (ap (λ (s : TsoState). unwritable s.memory b 8) same
    ∙ (unwritable-put m a (little_bytes 8 c.args.first.1) b 8
    ∙ ap (λ o. either o (unwritable m b 8)) c.in_ok-check.ensures))

pub returns-clause-err : goal.returns-clause-err
returns-clause-err c =
    let m = c.args.memory.now.memory in
    let a = c.args.first.0 in
    let b = c.args.second.0 in
    let same : c.put_word.new.memory ≡ with_word c.args.memory.now a c.args.first.1 = c.in_ok-put_word.ensures.ok in
    never_err c.put_word-2.result _
    (c.put_word-2.ensures.rights
    ∙ (ap (λ (s : TsoState). unwritable s.memory b 8) same
    ∙ (unwritable-put m a (little_bytes 8 c.args.first.1) b 8
    ∙ sym c.in_ok-check-2.ensures)))
