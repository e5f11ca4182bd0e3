-- `sound::long_enough` meets its contract: table by table.
-- Assumes nothing.
use Rattle.std.proofs.Common.{◌≡◌, ◌&&◌, ◌∙◌, refl, ap, length}
use lib.Dec.{leb}
use borrow.Author.Tests.{lt-leb, le-leb}
use Rattle.rules.specs.Bytes.{tables_of}
use Rattle.sound.proofs.Verdicts.{long-is, first-yes, first-no}
use Rattle.sound.proofs.long_enough.Goals.{then-t, else-t, then-t-2, else-t-2, then-t-3, else-t-3}
use Rattle.sound.proofs.long_enough.Goals as goal

pub returns-then-t-4 : goal.returns-then-t-4
returns-then-t-4 c =
    let t = tables_of c.args.t.now in
    let two : c.if-t.value ≡ (leb 2560 (length t.inner_vertices) && leb 20480 (length t.inner_tokens)) = elim c.if-t.branch [
      | then-t w ↦ first-yes (le-leb _ _ w.if-t.true) w.value-is
      | else-t w ↦ first-no _ (lt-leb _ _ w.if-t.false) w.value-is
    ] in
    let three : c.if-t-2.value ≡ (c.if-t.value && leb 4096 (length t.outer_vertices)) = elim c.if-t-2.branch [
      | then-t-2 w ↦ first-yes w.if-t-2.true w.value-is
      | else-t-2 w ↦ first-no _ w.if-t-2.false w.value-is
    ] in
    let four : c.if-t-3.value ≡ (c.if-t-2.value && leb 16384 (length t.outer_tokens)) = elim c.if-t-3.branch [
      | then-t-3 w ↦ first-yes w.if-t-3.true w.value-is
      | else-t-3 w ↦ first-no _ w.if-t-3.false w.value-is
    ] in
    first-yes c.if-t-4.true refl ∙ ap (λ z. z && leb 3072 (length t.resources)) (four ∙ ap (λ z. z && leb 16384 (length t.outer_tokens)) (three ∙ ap (λ z. z && leb 4096 (length t.outer_vertices)) two))
    ∙ long-is t

pub returns-else-t-4 : goal.returns-else-t-4
returns-else-t-4 c =
    let t = tables_of c.args.t.now in
    let two : c.if-t.value ≡ (leb 2560 (length t.inner_vertices) && leb 20480 (length t.inner_tokens)) = elim c.if-t.branch [
      | then-t w ↦ first-yes (le-leb _ _ w.if-t.true) w.value-is
      | else-t w ↦ first-no _ (lt-leb _ _ w.if-t.false) w.value-is
    ] in
    let three : c.if-t-2.value ≡ (c.if-t.value && leb 4096 (length t.outer_vertices)) = elim c.if-t-2.branch [
      | then-t-2 w ↦ first-yes w.if-t-2.true w.value-is
      | else-t-2 w ↦ first-no _ w.if-t-2.false w.value-is
    ] in
    let four : c.if-t-3.value ≡ (c.if-t-2.value && leb 16384 (length t.outer_tokens)) = elim c.if-t-3.branch [
      | then-t-3 w ↦ first-yes w.if-t-3.true w.value-is
      | else-t-3 w ↦ first-no _ w.if-t-3.false w.value-is
    ] in
    first-no _ c.if-t-4.false refl ∙ ap (λ z. z && leb 3072 (length t.resources)) (four ∙ ap (λ z. z && leb 16384 (length t.outer_tokens)) (three ∙ ap (λ z. z && leb 4096 (length t.outer_vertices)) two))
    ∙ long-is t
