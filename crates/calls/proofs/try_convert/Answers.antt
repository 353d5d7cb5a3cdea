-- `calls::try_convert` meets its contract: the lengths, then what the reader found, then the form decide.
use native.Mathlib.Omega.{arith}
use Rattle.std.proofs.lemmas.Result.{err_from_is_err_and}
use Rattle.image.specs.Images.{read_of, converted, causes_of}
use Rattle.drive.specs.Calls.{convert_of}
use borrow.Author.Rules.{rules}
use Rattle.calls.proofs.Loads.{found, few_found}
use Rattle.calls.proofs.try_convert.Goals.{then-from-ne532-via-then-from-ne532, then-from-ne532-via-else-from-ne532+then-to-ne532}
use Rattle.calls.proofs.try_convert.Goals as goal

pub returns-then-from-ne532 : goal.returns-then-from-ne532
unfolding convert_of
returns-then-from-ne532 c =
    elim c.then-from-ne532.branch [
      | then-from-ne532-via-then-from-ne532 w ↦ (grind (arith, w.if-from-ne532.true), grind (arith, w.if-from-ne532.true))
      | then-from-ne532-via-else-from-ne532+then-to-ne532 w ↦ (grind (arith, w.if-to-ne532.true), grind (arith, w.if-to-ne532.true))
    ]

pub returns-in_err-image : goal.returns-in_err-image
unfolding convert_of read_of
returns-in_err-image c =
    let p = err_from_is_err_and c.from_residual.result c.from_residual.ensures.1 in
    rw (p.1, p.2) (
      grind (arith, c.if-from-ne532.false, c.if-to-ne532.false, c.read_image.ensures, c.in_err-image.was),
      grind (arith, c.if-from-ne532.false, c.if-to-ne532.false, c.read_image.ensures, c.in_err-image.was),
    )

pub invariant_of-t : goal.invariant_of-t
invariant_of-t c = rw c.lent-lists.ensures (few_found c.args.from.now _ (rw c.read_image.ensures at c.in_ok-image.was))

pub invariant_of-t-else-is_form_b : goal.invariant_of-t-else-is_form_b
invariant_of-t-else-is_form_b c = rw c.lent-lists.ensures (few_found c.args.from.now _ (rw c.read_image.ensures at c.in_ok-image.was))

pub write_stored-requires : goal.write_stored-requires
write_stored-requires c = (c.if-to-ne532.false, rw c.lent-lists.ensures (search rules), search rules)

pub returns-then-is_form_b : goal.returns-then-is_form_b
unfolding convert_of converted
returns-then-is_form_b c =
    let f = found c.args.from.now _ (rw c.read_image.ensures at c.in_ok-image.was) in (
      grind (arith, c.if-from-ne532.false, c.if-to-ne532.false, f.0),
      grind (arith, c.if-from-ne532.false, c.if-to-ne532.false, f.0, f.1, c.is_form_b.ensures, c.if-is_form_b.true, c.write_table.ensures, c.lent-lists.ensures),
    )

pub returns-else-is_form_b : goal.returns-else-is_form_b
unfolding convert_of converted causes_of
returns-else-is_form_b c =
    let f = found c.args.from.now _ (rw c.read_image.ensures at c.in_ok-image.was) in (
      grind (arith, c.if-from-ne532.false, c.if-to-ne532.false, f.0),
      grind (arith, c.if-from-ne532.false, c.if-to-ne532.false, f.0, f.1, c.is_form_b.ensures, c.if-is_form_b.false, c.write_stored.ensures, c.lent-lists.ensures),
    )
