-- Document 02, request 6: convert makes the other form of every image, and from A to B and back it is the first image.
use mathlib.Core.Path.{◌≡◌, refl, sym, ap, ◌∙◌}
use mathlib.Core.Bool.{true, ◌&&◌}
use mathlib.Core.List.{List}
use Prim.Native.Nat.{ℕ}
use borrow.Author.Tests.{eq-eqb}
use lib.Dec.{eqb}
use lib.ListN.{length}
use Rattle.logic.proofs.Bools.{branch, clash}
use Rattle.image.specs.Images.{well_formed, converted}
use Rattle.image.proofs.Formed.{formed_long}
use Rattle.image.proofs.RoundTrip.{read_spares, read_bads}
use Rattle.image.proofs.Convert.{converted_formed, other_form, converted_keeps, converted_blank, a_to_b_to_a}
use Rattle.drive.specs.declared.Answer.TheVariants as answer
use Rattle.drive.specs.Calls.{Conversion, convert_of}
use Rattle.drive.specs.Views.{of_answer}
use Rattle.drive.specs.Converting.{OtherForm, ConvertsEither, ThereAndBack}

pub converts_well : (i to : List ℕ) → length to ≡ 532 → well_formed i ≡ true → convert_of i to ≡ record { answer = answer.Wait; bytes = converted i }
unfolding convert_of
converts_well i to l h = rw (eq-eqb (length i) 532 (formed_long i h), eq-eqb (length to) 532 l, h)

-- A refused one leaves the second buffer; the first is only read.
pub refused_convert : (i to : List ℕ) → (of_answer (convert_of i to).answer).refused ≡ true → (convert_of i to).bytes ≡ to
unfolding convert_of
refused_convert i to =
    branch Left (eqb (length i) 532 && eqb (length to) 532) (λ e. branch Left (well_formed i) (λ w r. clash r refl) (λ w r. refl)) (λ e r. refl)
  where
    Left : Conversion → Type 0
    Left x = (of_answer x.answer).refused ≡ true → x.bytes ≡ to

in_other_form : (i : List ℕ) → well_formed i ≡ true → OtherForm i (converted i)
in_other_form i h =
    let k = converted_keeps i h in
    record {
      formed = converted_formed i h;
      other = other_form i h;
      lists = (read_spares (converted i) ∙ (k.0 ∙ sym (read_spares i)), read_bads (converted i) ∙ (k.1 ∙ sym (read_bads i)));
      run = (converted_blank i h).0;
      causes = (converted_blank i h).1;
    }

pub converts_either : ConvertsEither
converts_either i to l h = rw (converts_well i to l h) (refl, in_other_form i h)

pub there_and_back : ThereAndBack
there_and_back i to back bytes l k h b =
    rw (converts_well i to l h)
    (converts_well (converted i) back k (converted_formed i h) ∙ ap (λ (x : List ℕ). record { answer = answer.Wait; bytes = x }) (a_to_b_to_a i bytes h b))
