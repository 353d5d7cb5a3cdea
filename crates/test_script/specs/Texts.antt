-- The lines of a transcript.
use Rattle.std.specs.Prelude.{ℕ, ◌/◌, ◌%◌, List, [], ◌∷◌, ◌++◌, get_or}
use Rattle.geometry.specs.declared.Sector.{Sector}
use Rattle.drive.specs.declared.Offer.{Offer}
use Rattle.drive.specs.declared.Refusal.{Refusal}
use Rattle.drive.specs.declared.Answer.{Answer}
use Rattle.drive.specs.declared.Answer.TheVariants as answer
use Rattle.drive.specs.Words.{response, code_of, data_of}
use Rattle.test_text.specs.Printing.{letters, hex_text, decimal_text}
use Rattle.test_script.specs.Sums.{adler_of}

-- "offer 01 (two hex digits)"
unfoldable pub offer_text : Offer → List ℕ
offer_text o = letters "offer " ++ hex_text (response o)

-- "read 4960 and write 17 (sectors in decimal)"
unfoldable pub access_text : List ℕ → Sector → List ℕ
access_text word s = word ++ decimal_text s.0

-- "refused 3 (the code in decimal)"
unfoldable pub refusal_text : Refusal → List ℕ
refusal_text r = letters "refused " ++ decimal_text (code_of r)

abbrev pub answer_text : Answer → List ℕ
answer_text answer.Wait = letters "wait"
answer_text (answer.Offer o) = offer_text o
answer_text (answer.Read s) = access_text (letters "read ") s
answer_text (answer.Write s) = access_text (letters "write ") s
answer_text answer.Store = letters "store"
answer_text answer.Finished = letters "finished"
answer_text (answer.Refused r) = refusal_text r

-- eight digits
unfoldable pub long_text : ℕ → List ℕ
long_text x = hex_text (x / 16777216) ++ hex_text (x / 65536 % 256) ++ hex_text (x / 256 % 256) ++ hex_text (x % 256)

-- "bytes 0..3 of the buffer"
unfoldable pub status_text : List ℕ → List ℕ
status_text u = hex_text (get_or u 0 0) ++ hex_text (get_or u 1 0) ++ hex_text (get_or u 2 0) ++ hex_text (get_or u 3 0)

-- the sum of some bytes, and the line's end
unfoldable pub sum_text : List ℕ → List ℕ
sum_text s = long_text (adler_of s) ++ (10 ∷ [])

-- "ANSWER status HHHHHHHH data AAAAAAAA"
unfoldable pub call_text : Answer → List ℕ → List ℕ
call_text a u = answer_text a ++ letters " status " ++ status_text u ++ letters " data " ++ sum_text (data_of u)

-- "ANSWER image AAAAAAAA"
unfoldable pub image_text : Answer → List ℕ → List ℕ
image_text a s = answer_text a ++ letters " image " ++ sum_text s
