-- Lines of a transcript, and known sums of zlib: of no bytes, of `Wikipedia`, of 532 zeros, and of 532 bytes of EE hex.
use mathlib.Core.Path.{◌≡◌, refl}
use mathlib.Core.List.{[]}
use lib.ListN.{replicate}
use Rattle.drive.specs.declared.Answer.TheVariants as answer
use Rattle.drive.specs.Words.{data_of}
use Rattle.test_text.specs.Printing.{letters, glyph_of, digits}
use Rattle.test_script.specs.Sums.{adler_from, adler_of}
use Rattle.test_script.specs.Texts.{access_text, long_text, status_text, sum_text, call_text, image_text}

pub sum_of_none : adler_of [] ≡ 0x00000001
unfolding adler_from
sum_of_none = refl

pub sum_of_letters : adler_of (letters "Wikipedia") ≡ 0x11e60398
unfolding adler_from
sum_of_letters = refl

pub sum_of_zeros : adler_of (replicate 532 0x00) ≡ 0x02140001
unfolding adler_from
sum_of_zeros = refl

pub sum_of_ees : adler_of (replicate 532 0xee) ≡ 0x017deea8
unfolding adler_from
sum_of_ees = refl

-- `read 4960 status 00000000 data 02140001`: the first line after a start
pub line_of_start : call_text (answer.Read (record { 0 = 4960 })) (replicate 536 0x00) ≡ letters "read 4960 status 00000000 data 02140001\n"
unfolding call_text access_text status_text sum_text long_text adler_from data_of glyph_of digits
line_of_start = refl

-- `wait image 017deea8`
pub line_of_image : image_text answer.Wait (replicate 532 0xee) ≡ letters "wait image 017deea8\n"
unfolding image_text sum_text long_text adler_from glyph_of
line_of_image = refl
