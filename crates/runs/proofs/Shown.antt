-- WHAT THE STATEMENTS OF A READ OF FFFFFF AND OF FFFFFD, AND OF CONVERT, SAY of one table: block 17 on spare 0 after a CRC error,
-- blocks 5 and 6 bad, run number 7. The calls are not computed here, but for their premises: what is said of them comes from the
-- statements alone.
use mathlib.Core.Path.{◌≡◌, refl, ap, ◌∙◌}
use mathlib.Core.Bool.{true, false, not}
use mathlib.Core.List.{List, [], ◌∷◌, ◌++◌}
use Prim.Native.Nat.{ℕ}
use native.Mathlib.Omega.{arith}
use lib.ListN.{replicate}
use Rattle.table.specs.Tables.{spare_list, bad_list}
use Rattle.image.specs.Layouts.{wide, triple, triples}
use Rattle.image.specs.FormA.{list_part, framed_part, form_a}
use Rattle.image.specs.FormB.{form_b, has_magic}
use Rattle.image.specs.Images.{well_formed, table_of, run_of, causes_of}
use Rattle.drive.specs.declared.Answer.TheVariants as answer
use Rattle.drive.specs.declared.Drive.{Drive}
use Rattle.drive.specs.declared.Offer.TheVariants as offer
use Rattle.drive.specs.declared.Phase.TheVariants as phase
use Rattle.drive.specs.declared.Step.{Step}
use Rattle.drive.specs.declared.Turn.{Turn}
use Rattle.drive.specs.Words.{data_of, kind_of, number_of, order_of, status_of}
use Rattle.drive.specs.Results.{Out, out_of, part_left, status_left}
use Rattle.drive.specs.Handshake.{health, acted}
use Rattle.drive.specs.Calls.{started, lower_of, image_out_of, convert_of, Conversion}
use Rattle.drive.specs.Values.{Bytewise, Typed}
use Rattle.drive.specs.TableRead.{OffersRead, Shows, TableRead}
use Rattle.drive.specs.HealthRead.{ShowsHealth, HealthRead, HealthUnknown, HealthWrite}
use Rattle.drive.specs.Converting.{OtherForm, ConvertsEither, ThereAndBack}
use Rattle.drive.proofs.Computing.{computed}

abbrev image_a : List ℕ
image_a = form_a (17 ∷ []) (5 ∷ 6 ∷ [])

abbrev image_b : List ℕ
image_b = form_b 7 (17 ∷ []) (1 ∷ []) (5 ∷ 6 ∷ [])

-- Lends nines.
abbrev nines : ℕ → List ℕ
nines n = replicate n 9

-- Offers 02 for a read of the number FFFF00 + n, the first command after a start.
abbrev offered : ℕ → Drive
offered n =
    record {
      table = record { spares = 17 ∷ replicate 31 0; bads = 5 ∷ 6 ∷ replicate 98 0; nspares = 1; nbads = 2 };
      causes = 1 ∷ replicate 31 0;
      state = record {
        phase = phase.Offered offer.Read;
        marks = record { known = true; changed = false; moved = false; latch = false; fresh = true };
        command = 0 ∷ 255 ∷ 255 ∷ n ∷ 0 ∷ 0 ∷ [];
        count = 6;
        fed = 0;
        run = 7;
      };
    }

-- Acts on it.
abbrev read : ℕ → Out
read n = lower_of (offered n) (nines 536) 0x55

-- A READ OF FFFFFF
pub offers_ffffff : OffersRead 0xFFFFFF (offered 255)
unfolding computed
offers_ffffff = record { valid = refl; offered = refl; kind = refl; number = refl; few = omega arith; known = refl }

pub shown : TableRead → Typed (offered 255) → Shows (offered 255) (read 255) (image_out_of (offered 255) (nines 532))
shown shows typed = shows (offered 255) (nines 536) (nines 532) typed offers_ffffff refl refl

pub the_table_shown : TableRead → Typed (offered 255) → (read 255).bytes ≡ (0x00 ∷ 0x00 ∷ 0x80 ∷ 0x00 ∷ []) ++ image_a
unfolding status_of wide triple triples list_part framed_part form_a
the_table_shown shows typed = (shown shows typed).bytes

pub the_read_of_the_table_finishes :
    TableRead → Typed (offered 255)
    → ((read 255).step.answer ≡ answer.Finished)
    × ((read 255).step.drive.state.phase ≡ phase.Idle)
    × ((read 255).step.drive.state.marks.fresh ≡ false)
    × ((read 255).step.drive.causes ≡ 1 ∷ replicate 31 0)
the_read_of_the_table_finishes shows typed =
    let s = (shown shows typed).step in
    (ap (λ (x : Step). x.answer) s, ap (λ (x : Step). x.drive.state.phase) s, ap (λ (x : Step). x.drive.state.marks.fresh) s, ap (λ (x : Step). x.drive.causes) s)

pub convert_makes_it_of_the_image_calls :
    TableRead → Typed (offered 255)
    → ((image_out_of (offered 255) (nines 532)).step.answer ≡ answer.Wait)
    × (convert_of (image_out_of (offered 255) (nines 532)).bytes (nines 532) ≡ record { answer = answer.Wait; bytes = image_a })
convert_makes_it_of_the_image_calls shows typed = ((shown shows typed).given, (shown shows typed).converts (nines 532) refl)

-- So the calls leave it.
pub the_table_so : ((read 255).bytes ≡ (0x00 ∷ 0x00 ∷ 0x80 ∷ 0x00 ∷ []) ++ image_a) × ((image_out_of (offered 255) (nines 532)).bytes ≡ image_b)
unfolding computed image_out_of
the_table_so = (refl, refl)

-- A READ OF FFFFFD
pub offers_fffffd : OffersRead 0xFFFFFD (offered 253)
unfolding computed
offers_fffffd = record { valid = refl; offered = refl; kind = refl; number = refl; few = omega arith; known = refl }

pub healthy : HealthRead → ShowsHealth (offered 253) (read 253)
healthy shows = shows (offered 253) (nines 536) offers_fffffd (refl, refl) refl

pub the_health_shown :
    HealthRead
    → ((read 253).bytes ≡ (0x00 ∷ 0x00 ∷ 0x80 ∷ 0x00 ∷ 31 ∷ 2 ∷ 0 ∷ 0 ∷ []) ++ replicate 528 0)
    × ((read 253).step.answer ≡ answer.Finished)
    × ((read 253).step.drive.state.phase ≡ phase.Idle)
    × ((read 253).step.drive.state.marks.fresh ≡ false)
unfolding status_of health
the_health_shown shows =
    let s = (healthy shows).step in
    ((healthy shows).bytes, ap (λ (x : Step). x.answer) s, ap (λ (x : Step). x.drive.state.phase) s, ap (λ (x : Step). x.drive.state.marks.fresh) s)

-- COMMANDS FOR FFFFFD right after a start, when no table is known: what acting on one leaves of nines.
abbrev acts : List ℕ → Turn
acts command = acted (order_of command) started.state started.table

abbrev left : Turn → List ℕ
left x = (out_of started.table started.causes [] (nines 536) x).bytes

pub the_health_is_not_known : HealthUnknown → left (acts (0 ∷ 255 ∷ 255 ∷ 253 ∷ 0 ∷ 0 ∷ [])) ≡ (0x01 ∷ 0x08 ∷ 0x80 ∷ 0x00 ∷ []) ++ nines 532
unfolding status_of status_left part_left number_of kind_of data_of
the_health_is_not_known unknown = ap left (unknown (order_of (0 ∷ 255 ∷ 255 ∷ 253 ∷ 0 ∷ 0 ∷ [])) started.state started.table refl refl (omega arith) refl)

pub the_health_is_not_written : HealthWrite → left (acts (1 ∷ 255 ∷ 255 ∷ 253 ∷ [])) ≡ (0x01 ∷ 0x00 ∷ 0xC0 ∷ 0x00 ∷ []) ++ nines 532
unfolding status_of status_left part_left number_of kind_of data_of
the_health_is_not_written writes = ap left (writes (order_of (1 ∷ 255 ∷ 255 ∷ 253 ∷ [])) started.state started.table refl refl (omega arith))

-- CONVERT
abbrev other : List ℕ → Conversion
other i = convert_of i (nines 532)

-- Says what an image of the table above has.
pub record Lists (i : List ℕ) : Type 0 where
  pub formed : well_formed i ≡ true
  pub spares : spare_list (table_of i) ≡ 17 ∷ []
  pub bads : bad_list (table_of i) ≡ 5 ∷ 6 ∷ []

pub both_are_images : Lists image_a × Lists image_b × (has_magic image_a ≡ false) × (has_magic image_b ≡ true)
unfolding computed
both_are_images = (record { formed = refl; spares = refl; bads = refl }, record { formed = refl; spares = refl; bads = refl }, refl, refl)

-- Gives what the statement says of the other form of such an image: the same lists, and neither run number nor causes.
pub record Bare (x : List ℕ) : Type 0 where
  pub lists : Lists x
  pub run : run_of x ≡ 0
  pub causes : causes_of x ≡ replicate 32 0

pub bare : (i x : List ℕ) → Lists i → OtherForm i x → Bare x
bare i x l o = record { lists = record { formed = o.formed; spares = o.lists.0 ∙ l.spares; bads = o.lists.1 ∙ l.bads }; run = o.run; causes = o.causes }

pub form_a_converted : ConvertsEither → ((other image_a).answer ≡ answer.Wait) × (has_magic (other image_a).bytes ≡ true) × Bare (other image_a).bytes
form_a_converted converts =
    let x = converts image_a (nines 532) refl both_are_images.0.formed in
    (x.0, x.1.other ∙ ap not both_are_images.2, bare image_a (other image_a).bytes both_are_images.0 x.1)

pub form_b_converted : ConvertsEither → ((other image_b).answer ≡ answer.Wait) × (has_magic (other image_b).bytes ≡ false) × Bare (other image_b).bytes
form_b_converted converts =
    let x = converts image_b (nines 532) refl both_are_images.1.formed in
    (x.0, x.1.other ∙ ap not both_are_images.3, bare image_b (other image_b).bytes both_are_images.1 x.1)

pub form_a_there_and_back : ThereAndBack → Bytewise image_a → convert_of (other image_a).bytes (nines 532) ≡ record { answer = answer.Wait; bytes = image_a }
form_a_there_and_back back bytes = back image_a (nines 532) (nines 532) bytes refl refl both_are_images.0.formed both_are_images.2
