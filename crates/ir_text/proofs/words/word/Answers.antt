use Rattle.std.proofs.Common.{◌≡◌, ◌+◌, ◌++◌, ◌≤◌, ℕ, List, Ok, Err, drop, length, map, min, sym, ap, ◌∙◌, arith}
use Rattle.ir_text.specs.Reading.{literal, word_from}
use Rattle.ir_text.proofs.WordLemmas.{word_found, word_missed, word_none}
use Rattle.ir_text.proofs.words.word.Goals as goal

pub returns-in-Ok : goal.returns-in-Ok
returns-in-Ok g c =
    let x = c.loop-word-item.result in
    let found : literal (x.0.now ++ c.args.end.now) c.args.bytes.now ≡ Ok c.in-Ok.rest.now =
    ap (λ (z : List ℕ). literal (z ++ c.args.end.now) c.args.bytes.now) (sym c.as_bytes.ensures.value) ∙ sym c.in-Ok.ensures in
    sym (word_found (λ w. (w.0.now, w.1)) c.args.end.now c.args.bytes.now c.args.words.now c.loop-word.left c.loop-word.word-index x c.in-Ok.rest.now c.loop-word-test.true c.loop-word-item.is found) ∙ c.loop-word.invariant

pub loop-word-preserved : goal.loop-word-preserved
loop-word-preserved g c =
    let x = c.loop-word-item.result in
    let missed : literal (x.0.now ++ c.args.end.now) c.args.bytes.now ≡ Err c.in-Err.there =
    ap (λ (z : List ℕ). literal (z ++ c.args.end.now) c.args.bytes.now) (sym c.as_bytes.ensures.value) ∙ sym c.in-Err.ensures in
    let least : c.min-left.result ≡ min c.loop-word.left c.in-Err.there = c.min-left.ensures in
    ap (λ (n : ℕ). word_from n (map (λ w. (w.0.now, w.1)) (drop (c.loop-word.word-index + 1) c.args.words.now)) c.args.end.now c.args.bytes.now) least
    ∙ word_missed (λ w. (w.0.now, w.1)) c.args.end.now c.args.bytes.now c.args.words.now c.loop-word.left c.loop-word.word-index x c.in-Err.there c.loop-word-test.true c.loop-word-item.is missed
    ∙ c.loop-word.invariant

pub returns : goal.returns
returns g c =
    let all : length c.args.words.now ≤ c.loop-word.word-index = omega arith in
    sym (word_none (λ w. (w.0.now, w.1)) c.args.end.now c.args.bytes.now c.args.words.now c.loop-word.left c.loop-word.word-index all) ∙ c.loop-word.invariant
