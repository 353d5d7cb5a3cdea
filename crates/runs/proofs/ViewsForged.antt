-- What is read off a call and off an answer: lists of lines, each against a wrong row of the two views.
use mathlib.Core.Path.{refl}
use mathlib.Core.List.{List, [], ◌∷◌, ◌++◌}
use Rattle.image.specs.FormA.{form_a}
use Rattle.drive.specs.declared.Offer.TheVariants as offer
use Rattle.drive.specs.declared.Answer.{Answer}
use Rattle.drive.specs.declared.Answer.TheVariants as answer
use Rattle.drive.specs.Calls.{Call, raise, feed, surface, reset}
use Rattle.drive.specs.History.{Line, blank, Allows}
use Rattle.drive.proofs.Computing.{computed}
use Rattle.drive.proofs.Forging.{last_asks, not_the_one, not_anywhere, sevens, says, ends, offers, reads, writes, found, asks_read, asks_write, reads_good, writes_good, AllFit, all_fit}
use Rattle.drive.proofs.Transcripts.{go, done, times_out}

-- Says that the history does not allow a list.
abbrev Forbids : List Line → Type 0
Forbids os = Allows sevens blank os → ⊥

-- THE CALLS

-- Ends a write by this call after its offer 06. If it is acted on, its one is a candidate.
abbrev instead : Call → List Line
instead c = found [] ++ asks_write 1 ++ (ends c 0x00 0x00 1 ∷ []) ++ reads_good 1

pub no_call_but_the_lower_acts : Forbids (instead raise) × Forbids (instead (feed [])) × Forbids (instead done) × Forbids (instead reset)
unfolding computed
no_call_but_the_lower_acts = (
  λ a. not_the_one 1 7 refl ((last_asks sevens blank (instead raise) a).0.read_rule refl),
  λ a. not_the_one 1 7 refl ((last_asks sevens blank (instead (feed [])) a).0.read_rule refl),
  λ a. not_the_one 1 7 refl ((last_asks sevens blank (instead done) a).0.read_rule refl),
  λ a. not_the_one 1 7 refl ((last_asks sevens blank (instead reset) a).0.read_rule refl),
)

-- Makes this call between the write s of a write and its finish. If it breaks nothing off, the write is reported good.
abbrev between : Call → List Line
between c = found [] ++ asks_write 1 ++ (says go (writes 17) ∷ says c answer.Wait ∷ ends done 0x00 0x00 1 ∷ []) ++ reads_good 7

pub a_raise_a_feed_and_an_answer_break_nothing_off : Forbids (between raise) × Forbids (between (feed [])) × Forbids (between times_out)
unfolding computed
a_raise_a_feed_and_an_answer_break_nothing_off = (
  λ a. not_the_one 7 1 refl ((last_asks sevens blank (between raise) a).0.read_rule refl),
  λ a. not_the_one 7 1 refl ((last_asks sevens blank (between (feed [])) a).0.read_rule refl),
  λ a. not_the_one 7 1 refl ((last_asks sevens blank (between times_out) a).0.read_rule refl),
)

-- Feeds an image while the start's read is awaited: no block has a sector yet.
abbrev image_fed : List Line
image_fed = says (feed (form_a [] [])) answer.Wait ∷ asks_read 17 ++ (says go (reads 17) ∷ [])

pub what_is_fed_is_no_table : Forbids image_fed
unfolding computed
what_is_fed_is_no_table a = not_anywhere 17 ((last_asks sevens blank image_fed a).0.first_rule refl).1

-- Makes a reset, a raise and a lower among the bytes of a command and among its data: they feed nothing, and drop nothing.
abbrev among_bytes : List Line
among_bytes = says reset answer.Wait ∷ says raise answer.Wait ∷ says go answer.Wait ∷ []

abbrev in_pieces : List Line
in_pieces =
    found [] ++ (offers offer.Command ∷ says go answer.Wait ∷ says (feed (1 ∷ [])) answer.Wait ∷ []) ++ among_bytes
    ++ (says (feed (0 ∷ 0 ∷ 17 ∷ [])) answer.Wait ∷ offers offer.Write ∷ says go answer.Wait ∷ says (feed (1 ∷ [])) answer.Wait ∷ []) ++ among_bytes
    ++ (offers offer.Act ∷ says go (writes 17) ∷ ends done 0x00 0x00 1 ∷ []) ++ reads_good 1

pub only_a_feed_feeds : AllFit sevens blank in_pieces
unfolding computed
only_a_feed_feeds = all_fit sevens blank in_pieces refl

-- THE ANSWERS

-- Answers the lower that acts on a write with this, and never finishes it.
abbrev unfinished : Answer → List Line
unfinished x = found [] ++ asks_write 1 ++ (says go x ∷ []) ++ reads_good 1

pub no_answer_but_finished_reports :
    Forbids (unfinished answer.Wait)
    × Forbids (unfinished (answer.Offer offer.Act))
    × Forbids (unfinished (reads 17))
    × Forbids (unfinished (writes 17))
    × Forbids (unfinished answer.Store)
unfolding computed
no_answer_but_finished_reports = (
  λ a. not_the_one 1 7 refl ((last_asks sevens blank (unfinished answer.Wait) a).0.read_rule refl),
  λ a. not_the_one 1 7 refl ((last_asks sevens blank (unfinished (answer.Offer offer.Act)) a).0.read_rule refl),
  λ a. not_the_one 1 7 refl ((last_asks sevens blank (unfinished (reads 17)) a).0.read_rule refl),
  λ a. not_the_one 1 7 refl ((last_asks sevens blank (unfinished (writes 17)) a).0.read_rule refl),
  λ a. not_the_one 1 7 refl ((last_asks sevens blank (unfinished answer.Store) a).0.read_rule refl),
)

-- Resets after the offer of a write, with this answer, and lowers with 55.
abbrev afterwards : Answer → List Line
afterwards x = found [] ++ asks_write 1 ++ (says reset x ∷ ends go 0x00 0x00 1 ∷ []) ++ reads_good 1

pub no_answer_but_an_offer_offers :
    Forbids (afterwards answer.Wait)
    × Forbids (afterwards (reads 17))
    × Forbids (afterwards (writes 17))
    × Forbids (afterwards answer.Store)
    × Forbids (afterwards answer.Finished)
unfolding computed
no_answer_but_an_offer_offers = (
  λ a. not_the_one 1 7 refl ((last_asks sevens blank (afterwards answer.Wait) a).0.read_rule refl),
  λ a. not_the_one 1 7 refl ((last_asks sevens blank (afterwards (reads 17)) a).0.read_rule refl),
  λ a. not_the_one 1 7 refl ((last_asks sevens blank (afterwards (writes 17)) a).0.read_rule refl),
  λ a. not_the_one 1 7 refl ((last_asks sevens blank (afterwards answer.Store) a).0.read_rule refl),
  λ a. not_the_one 1 7 refl ((last_asks sevens blank (afterwards answer.Finished) a).0.read_rule refl),
)

-- Brings an image after this answer. If a read of 4960 was asked for, the table is learnt anew, and the seven a candidate again.
abbrev relearns : Answer → List Line
relearns x = found [] ++ writes_good 1 ++ (says raise x ∷ says (surface 0 (form_a [] [])) answer.Wait ∷ []) ++ reads_good 7

pub no_answer_but_a_read_s_reads :
    Forbids (relearns answer.Wait)
    × Forbids (relearns (answer.Offer offer.Act))
    × Forbids (relearns (writes 4960))
    × Forbids (relearns answer.Store)
    × Forbids (relearns answer.Finished)
unfolding computed
no_answer_but_a_read_s_reads = (
  λ a. not_the_one 7 1 refl ((last_asks sevens blank (relearns answer.Wait) a).0.read_rule refl),
  λ a. not_the_one 7 1 refl ((last_asks sevens blank (relearns (answer.Offer offer.Act)) a).0.read_rule refl),
  λ a. not_the_one 7 1 refl ((last_asks sevens blank (relearns (writes 4960)) a).0.read_rule refl),
  λ a. not_the_one 7 1 refl ((last_asks sevens blank (relearns answer.Store) a).0.read_rule refl),
  λ a. not_the_one 7 1 refl ((last_asks sevens blank (relearns answer.Finished) a).0.read_rule refl),
)

-- Answers the lower that acts on a write with this, and fails it. After a write s its one is a candidate.
abbrev fails : Answer → List Line
fails x = found [] ++ asks_write 1 ++ (says go x ∷ ends times_out 0x05 0x00 1 ∷ []) ++ reads_good 1

pub no_answer_but_a_write_s_writes :
    Forbids (fails answer.Wait) × Forbids (fails (answer.Offer offer.Act)) × Forbids (fails (reads 17)) × Forbids (fails answer.Store)
unfolding computed
no_answer_but_a_write_s_writes = (
  λ a. not_the_one 1 7 refl ((last_asks sevens blank (fails answer.Wait) a).0.read_rule refl),
  λ a. not_the_one 1 7 refl ((last_asks sevens blank (fails (answer.Offer offer.Act)) a).0.read_rule refl),
  λ a. not_the_one 1 7 refl ((last_asks sevens blank (fails (reads 17)) a).0.read_rule refl),
  λ a. not_the_one 1 7 refl ((last_asks sevens blank (fails answer.Store) a).0.read_rule refl),
)
