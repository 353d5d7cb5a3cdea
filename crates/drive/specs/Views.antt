-- WHAT THE HISTORY READS OFF A CALL AND OFF AN ANSWER: one view for each.
use Rattle.std.specs.Prelude.{Bool, true, false, not, List, [], ◌++◌, ℕ, eqb}
use Rattle.geometry.specs.declared.Sector.{Sector}
use Rattle.drive.specs.declared.Answer.{Answer}
use Rattle.drive.specs.declared.Answer.TheVariants as answer
use Rattle.drive.specs.Words.{response, code_of}
use Rattle.drive.specs.Calls.{Call, raise, lower, feed, surface, reset}

abbrev pub Bytes : Type 0
Bytes = List ℕ

-- Holds a sector, or none.
pub data Where : Type 0 where
  nowhere : Where
  at : Sector → Where

-- Holds what is read off a call.
pub record CallView : Type 0 where
  pub goes : Bool  -- it lowers with 55
  pub breaks : Bool  -- it lowers with another byte, or resets
  pub good : Bool  -- it brings answer 0
  pub brought : Bytes  -- the bytes that the surface brought
  pub feeds : Bytes → Bytes  -- what was fed before, and what it feeds

-- Returns what is read off each call.
abbrev pub of_call : Call → CallView
of_call raise = record { goes = false; breaks = false; good = false; brought = []; feeds = λ h. h }
of_call (lower b) = record { goes = eqb b 0x55; breaks = not (eqb b 0x55); good = false; brought = []; feeds = λ h. h }
of_call (feed bs) = record { goes = false; breaks = false; good = false; brought = []; feeds = λ h. h ++ bs }
of_call (surface a bs) = record { goes = false; breaks = false; good = eqb a 0; brought = bs; feeds = λ h. h }
of_call reset = record { goes = false; breaks = true; good = false; brought = []; feeds = λ h. h }

-- Holds what is read off an answer. offer is 0 for all but an offer, code is 0 for all but a refusal.
pub record AnswerView : Type 0 where
  pub refused : Bool
  pub finished : Bool
  pub offer : ℕ  -- the response byte
  pub read : Where  -- the sector of a read s
  pub write : Where  -- the sector of a write s
  pub code : ℕ

-- Returns what is read off each answer.
abbrev pub of_answer : Answer → AnswerView
of_answer answer.Wait = record { refused = false; finished = false; offer = 0; read = nowhere; write = nowhere; code = 0 }
of_answer (answer.Offer o) = record { refused = false; finished = false; offer = response o; read = nowhere; write = nowhere; code = 0 }
of_answer (answer.Read s) = record { refused = false; finished = false; offer = 0; read = at s; write = nowhere; code = 0 }
of_answer (answer.Write s) = record { refused = false; finished = false; offer = 0; read = nowhere; write = at s; code = 0 }
of_answer answer.Store = record { refused = false; finished = false; offer = 0; read = nowhere; write = nowhere; code = 0 }
of_answer answer.Finished = record { refused = false; finished = true; offer = 0; read = nowhere; write = nowhere; code = 0 }
of_answer (answer.Refused r) = record { refused = true; finished = false; offer = 0; read = nowhere; write = nowhere; code = code_of r }
