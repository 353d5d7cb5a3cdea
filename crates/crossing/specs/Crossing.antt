-- The calls as C sees them: over a record's words, with the answer as two numbers.
use Rattle.std.specs.Prelude.{cond, ◌≡◌, List, ◌++◌, ℕ}
use Rattle.drive.specs.declared.Turn.{Turn}
use Rattle.drive.specs.declared.Answer.{Answer}
use Rattle.drive.specs.declared.Answer.TheVariants as answer
use Rattle.drive.specs.Words.{response, code_of}
use Rattle.drive.specs.Results.{Out}
use Rattle.drive.specs.Calls.{Call, surface, step_of, start_of, image_out_of, convert_of}
use Rattle.drive.specs.Views.{of_answer}
use Rattle.packed.specs.Packing.{pack_table, pack_of, unpack_of}
use Rattle.calls.specs.declared.tables.Noted.{Noted}
use Rattle.calls.specs.Gives.{handed}
use Rattle.crossing.specs.declared.Reply.{Reply}

abbrev pub reply : ℕ → ℕ → Reply
reply k n = record { kind = k; value = n }

-- Returns the two numbers of an answer.
abbrev pub reply_of : Answer → Reply
reply_of answer.Wait = reply 0 0
reply_of (answer.Offer o) = reply 1 (response o)
reply_of (answer.Read s) = reply 2 s.0
reply_of (answer.Write s) = reply 3 s.0
reply_of answer.Store = reply 4 0
reply_of answer.Finished = reply 5 0
reply_of (answer.Refused r) = reply 6 (code_of r)

-- Holds what C is shown of a call: the reply, the record's words and the buffer's bytes.
pub record Shown : Type 0 where
  pub reply : Reply
  pub words : List ℕ
  pub bytes : List ℕ

abbrev pub shown : Reply → List ℕ → List ℕ → Shown
shown r w u = record { reply = r; words = w; bytes = u }

-- Returns the words after a call: v, or w as they were where it is refused. "leaves: all unchanged"
abbrev pub kept : Answer → List ℕ → List ℕ → List ℕ
kept a w v = cond (of_answer a).refused w v

-- Returns what C is shown of a call with the result x on the words w.
abbrev pub crossed : List ℕ → Out → Shown
crossed w x = shown (reply_of x.step.answer) (kept x.step.answer w (pack_of x.step.drive)) x.bytes

-- Returns what C is shown of a call of the list, on the words w and the buffer u.
abbrev pub call_shown : Call → List ℕ → List ℕ → Shown
call_shown c w u = crossed w (step_of c (unpack_of w) u)

-- Returns what C is shown of the surface's answer a with the bytes bs.
abbrev pub answer_shown : ℕ → List ℕ → List ℕ → List ℕ → Shown
answer_shown a bs w u = call_shown (surface a bs) w u

-- Returns what C is shown of start.
abbrev pub start_shown : List ℕ → List ℕ → Shown
start_shown w u = crossed w (start_of (unpack_of w) u)

-- Returns what C is shown of image, which writes no word.
abbrev pub image_shown : List ℕ → List ℕ → Shown
image_shown w u = shown (reply_of (image_out_of (unpack_of w) u).step.answer) w (image_out_of (unpack_of w) u).bytes

-- Holds what C is shown of convert: the reply and the second buffer's bytes. It has no record.
pub record ShownBytes : Type 0 where
  pub reply : Reply
  pub bytes : List ℕ

abbrev pub shown_bytes : Reply → List ℕ → ShownBytes
shown_bytes r u = record { reply = r; bytes = u }

-- Returns what C is shown of convert.
abbrev pub convert_shown : List ℕ → List ℕ → ShownBytes
convert_shown from to = shown_bytes (reply_of (convert_of from to).answer) (convert_of from to).bytes

-- Returns the words of a table and its causes.
abbrev pub note_words : Noted → List ℕ
note_words k = pack_table k.table ++ k.causes

-- Says that r and v are the reply and the words after the turn x on the words w, with the table and the causes k after it.
abbrev pub Keeps : Noted → Turn → List ℕ → Reply → List ℕ → Type 0
Keeps k x w r v = (r ≡ reply_of x.answer) × (v ≡ kept x.answer w (pack_of (handed k x).drive))
