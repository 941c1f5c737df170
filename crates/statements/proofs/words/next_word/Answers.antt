-- `statements::words::next_word` meets its contract: blanks, then a comment or a word. Assumes nothing.
use Rattle.std.proofs.Common.{◌≡◌, ◌∙◌, ◌+◌, ◌<◌, ap, length, drop, arith}
use Rattle.std.specs.List.{prefix_len}
use Rattle.statements.specs.Words.{is_blank}
use Rattle.statements.specs.inner.Words.{not_blank}
use Rattle.statements.proofs.Bytes.{rest_is, blanks_on, blanks_end, words-past, comment, word_begins, word_size}
use Rattle.statements.proofs.words.next_word.Goals as goal
use Rattle.statements.proofs.words.next_word.Goals.{then-start-line-via-then-start-line, then-start-line-via-else-start-line+then-line-start-eq-COMMENT}

pub returns-then-line-at : goal.returns-then-line-at
returns-then-line-at c = words-past c.args.line.now c.args.at c.if-line-at.true

pub returns-then-start-line : goal.returns-then-start-line
returns-then-start-line c =
    let line = c.args.line.now in
    let at = c.args.at in
    let start = at + c.blanks.result in
    let n : c.blanks.result ≡ prefix_len is_blank (drop at line) = c.blanks.ensures.0 ∙ ap (prefix_len is_blank) (rest_is line at) in
    blanks_on line at c.blanks.result n
    ∙ elim c.then-start-line.branch [
      | then-start-line-via-then-start-line w ↦ words-past line start (omega arith)
      | then-start-line-via-else-start-line+then-line-start-eq-COMMENT w ↦
          let inside : start < length line = omega arith in
          comment line start inside (blanks_end line at c.blanks.result n inside) w.if-line-start-eq-COMMENT.true
    ]

pub returns : goal.returns
returns c =
    let line = c.args.line.now in
    let at = c.args.at in
    let start = at + c.blanks.result in
    let size = c.word_length-size.result in
    let n : c.blanks.result ≡ prefix_len is_blank (drop at line) = c.blanks.ensures.0 ∙ ap (prefix_len is_blank) (rest_is line at) in
    let k : size ≡ prefix_len not_blank (drop start line) = c.word_length-size.ensures.0 ∙ ap (prefix_len not_blank) (rest_is line start) in
    let inside : start < length line = omega arith in
    let other = blanks_end line at c.blanks.result n inside in
    record {
      on = omega arith;
      some = word_size line start size k inside other;
      inside = omega arith;
      more = blanks_on line at c.blanks.result n ∙ word_begins line start size k inside other c.if-line-start-eq-COMMENT.false;
    }
