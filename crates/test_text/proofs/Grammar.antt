-- The reader reads the format: its steps over the characters of a token, and of a line, make what the format says of the whole.
use mathlib.Core.Path.{◌≡◌, refl}
use mathlib.Core.Bool.{Bool, true, false, cond}
use mathlib.Core.List.{List, [], ◌∷◌, ◌++◌, append_assoc, append-nil}
use Prim.Native.Nat.{ℕ, zero, suc, ◌+◌, ◌-◌, ◌*◌, ◌%◌, ◌≤◌, ◌<◌}
use native.Mathlib.Omega.{arith}
use Rattle.std.specs.Prelude.{Option, Some, None, Result, Ok, Err}
use borrow.Author.Tests.{le-leb, lt-leb, ltb-true, ltb-false, ne_eqb}
use lib.Dec.{leb, ltb, eqb}
use Rattle.logic.proofs.Bools.{branch, and_false}
use Rattle.test_text.specs.Reading.{within, decimal_digit, hex_digit, Below, first_digit, second_digit, starred, times_of, stepped, counted_run, run_of, Keep, kept_of, line_start, next_token, line_end, line_on}
use Rattle.test_text.specs.Grammar.{are_digits, value_of, count_of, after_byte, byte_of, token_of, on_first, pieces, unless_bad, gathered}
use Rattle.test_text.specs.declared.Fault.{Fault}
use Rattle.test_text.specs.declared.Fault.TheVariants as fault
use Rattle.test_text.specs.declared.Token.{Token}
use Rattle.test_text.specs.declared.Token.TheVariants as token
use Rattle.test_text.specs.declared.Bytes.{Bytes}
use Rattle.test_text.proofs.Digits.{in_range}

-- the reader's steps over the characters of a token
unfoldable pub read_token : Token → List ℕ → Token
read_token t [] = t
read_token t (ch ∷ cs) = read_token (stepped t ch) cs

read_bad : (f : Fault) (cs : List ℕ) → read_token (token.Bad f) cs ≡ token.Bad f
unfolding read_token
read_bad f [] = refl
read_bad f (ch ∷ cs) = read_bad f cs

grows : (n : ℕ) (cs : List ℕ) → n ≤ value_of n cs
unfolding value_of
grows n [] = omega arith
grows n (ch ∷ cs) = let h = grows (n * 10 + (ch - 48)) cs in omega arith

counting : (b n : ℕ) (cs : List ℕ) → n ≤ 4096 → run_of (read_token (token.Times b n) cs) ≡ count_of b n cs
unfolding read_token count_of are_digits value_of decimal_digit counted_run
counting b zero [] h = refl
counting b (suc n) [] h = rw (ne_eqb (suc n) 0 (λ (e : suc n ≡ 0). omega arith), le-leb 1 (suc n) (omega arith), le-leb (suc n) 4096 h)
counting b n (ch ∷ cs) h = digits (within 48 57 ch) refl (λ (p : n * 10 + (ch - 48) ≤ 4096). counting b (n * 10 + (ch - 48)) cs p)
  where
    v : ℕ
    v = n * 10 + (ch - 48)

    limit : (t : Bool) → ltb 4096 v ≡ t → (v ≤ 4096 → run_of (read_token (token.Times b v) cs) ≡ count_of b v cs)
        → run_of (read_token (times_of b (cond t None (Some v))) cs) ≡ count_of b v cs
    limit true e r =
        let w : 4096 < value_of v cs = omega (arith, ltb-true 4096 v e, grows v cs) in
        rw (read_bad fault.Count cs, and_false (are_digits cs) _ (and_false (leb 1 (value_of v cs)) _ (lt-leb (value_of v cs) 4096 w)))
    limit false e r = r (ltb-false 4096 v e)

    digits : (t : Bool) → within 48 57 ch ≡ t → (v ≤ 4096 → run_of (read_token (token.Times b v) cs) ≡ count_of b v cs)
        → run_of (read_token (token.Times b n) (ch ∷ cs)) ≡ count_of b n (ch ∷ cs)
    digits true e r = rw e (limit (ltb 4096 v) refl r)
    digits false e r = rw (e, read_bad fault.Count cs)

hex_below : (ch : ℕ) → Below 16 (hex_digit ch)
unfolding hex_digit
hex_below ch =
    branch (Below 16) (within 48 57 ch) (λ e. let h = in_range 48 57 ch e in omega arith)
    (λ _. branch (Below 16) (within 97 102 ch) (λ e. let h = in_range 97 102 ch e in omega arith)
    (λ _. branch (Below 16) (within 65 70 ch) (λ e. let h = in_range 65 70 ch e in omega arith) (λ _. tt)))

tail : (b : ℕ) (cs : List ℕ) → run_of (read_token (token.Byte b) cs) ≡ after_byte b cs
unfolding read_token starred
tail b [] = refl
tail b (ch ∷ cs) = go (eqb ch 42)
  where
    go : (t : Bool) → run_of (read_token (cond t (token.Times b 0) (token.Bad fault.Byte)) cs) ≡ cond t (count_of b 0 cs) (Err fault.Byte)
    go true = counting b 0 cs (omega arith)
    go false = rw (read_bad fault.Byte cs)

second : (h : ℕ) → h < 16 → (d : Option ℕ) (cs : List ℕ) → run_of (read_token (second_digit h d) cs) ≡ byte_of (Some h) d cs
second h p (Some l) cs =
    let e : h % 16 * 16 + l ≡ 16 * h + l = omega arith in
    rw e (tail (16 * h + l) cs)
second h p None cs = rw (read_bad fault.Byte cs)

first : (d : Option ℕ) → Below 16 d → (l : ℕ) (cs : List ℕ) → run_of (read_token (first_digit d) (l ∷ cs)) ≡ byte_of d (hex_digit l) cs
unfolding read_token
first (Some h) p l cs = second h p (hex_digit l) cs
first None p l cs = rw (read_bad fault.Byte cs)

one : (d : Option ℕ) → run_of (first_digit d) ≡ Err fault.Byte
one (Some h) = refl
one None = refl

-- A TOKEN, character by character, is what the format says of it
pub reads_token : (cs : List ℕ) → run_of (read_token token.Gap cs) ≡ token_of cs
unfolding read_token
reads_token [] = refl
reads_token (h ∷ []) = one (hex_digit h)
reads_token (h ∷ l ∷ cs) = first (hex_digit h) (hex_below h) l cs

read_on : (t : Token) (cs : List ℕ) (ch : ℕ) → stepped (read_token t cs) ch ≡ read_token t (cs ++ (ch ∷ []))
unfolding read_token
read_on t [] ch = refl
read_on t (c ∷ cs) ch = read_on (stepped t c) cs ch

-- the reader's steps over the characters of a line, after the blank before the first token, and the line's end
unfoldable pub read_line : Bytes → List ℕ → List ℕ → Keep
read_line s out [] = line_end s out
read_line s out (ch ∷ cs) = read_line (line_on s out ch).bytes (line_on s out ch).buffer cs

at_token : ℕ → Token → Bytes
at_token used t = record { used = used; token = t }

-- after a fault nothing more is laid, and it stays
line_bad : (used : ℕ) (f : Fault) (out cs : List ℕ) → read_line (at_token used (token.Bad f)) out cs ≡ record { answer = Err f; buffer = out }
unfolding read_line line_on at_token
line_bad used f out [] = refl
line_bad used f out (ch ∷ cs) = go (eqb ch 32) refl (line_bad used f out cs)
  where
    go : (t : Bool) → eqb ch 32 ≡ t → read_line (at_token used (token.Bad f)) out cs ≡ record { answer = Err f; buffer = out }
        → read_line (at_token used (token.Bad f)) out (ch ∷ cs) ≡ record { answer = Err f; buffer = out }
    go true e r = rw e r
    go false e r = rw e r

-- characters before the first piece
before : List ℕ → List (List ℕ) → List (List ℕ)
before p [] = p ∷ []
before p (t ∷ ts) = (p ++ t) ∷ ts

before_on : (p : List ℕ) (ch : ℕ) (ts : List (List ℕ)) → before (p ++ (ch ∷ [])) ts ≡ before p (on_first ch ts)
unfolding before
before_on p ch [] = refl
before_on p ch (t ∷ ts) = rw (append_assoc p (ch ∷ []) t)

before_none : (cs : List ℕ) → before [] (pieces cs) ≡ pieces cs
unfolding before pieces
before_none [] = refl
before_none (ch ∷ cs) = go (eqb ch 32) (pieces cs)
  where
    go : (t : Bool) (ts : List (List ℕ)) → before [] (cond t ([] ∷ ts) (on_first ch ts)) ≡ cond t ([] ∷ ts) (on_first ch ts)
    go true ts = refl
    go false [] = refl
    go false (x ∷ ts) = refl

last : (a : Result ℕ Fault) (b : List ℕ) → ◌≡◌ {A = Keep} (record { answer = a; buffer = b }) (unless_bad (record { answer = a; buffer = b }) (gathered []) a)
unfolding gathered
last (Ok n) b = refl
last (Err f) b = refl

after_blank : (used : ℕ) (a : Result ℕ Fault) (b cs : List ℕ) → ((n : ℕ) → read_line (at_token n token.Gap) b cs ≡ gathered (pieces cs) n b)
    → read_line (next_token used a) b cs ≡ unless_bad (record { answer = a; buffer = b }) (gathered (pieces cs)) a
unfolding at_token
after_blank used (Ok n) b cs r = r n
after_blank used (Err f) b cs r = line_bad used f b cs

reads_from : (used : ℕ) (out p cs : List ℕ) → read_line (at_token used (read_token token.Gap p)) out cs ≡ gathered (before p (pieces cs)) used out
unfolding read_line line_on at_token before pieces gathered read_token
reads_from used out p [] = let k = kept_of out used (token_of p) in rw (append-nil p, reads_token p) (last k.answer k.buffer)
reads_from used out p (ch ∷ cs) =
    go (eqb ch 32) refl (λ (n : ℕ) (b : List ℕ). reads_from n b [] cs) (reads_from used out (p ++ (ch ∷ [])) cs)
  where
    go : (t : Bool) → eqb ch 32 ≡ t
        → ((n : ℕ) (b : List ℕ) → read_line (at_token n (read_token token.Gap [])) b cs ≡ gathered (before [] (pieces cs)) n b)
        → read_line (at_token used (read_token token.Gap (p ++ (ch ∷ [])))) out cs ≡ gathered (before (p ++ (ch ∷ [])) (pieces cs)) used out
        → read_line (at_token used (read_token token.Gap p)) out (ch ∷ cs) ≡ gathered (before p (pieces (ch ∷ cs))) used out
    go true e r q =
        let k = kept_of out used (token_of p) in
        rw (e, append-nil p, reads_token p) (after_blank used k.answer k.buffer cs (λ (n : ℕ). rw before_none at (r n k.buffer)))
    go false e r q = rw (e, read_on token.Gap p ch) (rw before_on at q)

-- A LINE'S BYTES, character by character, are what the format says of them
pub reads_line : (out cs : List ℕ) → read_line line_start out cs ≡ gathered (pieces cs) 0 out
unfolding at_token read_token
reads_line out cs = rw before_none at (reads_from 0 out [] cs)
