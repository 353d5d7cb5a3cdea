-- Transcripts: a list of calls and starts beside what each is answered, and one fold that computes all that a run is about.
use mathlib.Core.Path.{◌≡◌, refl, ap, sym, ◌∙◌}
use mathlib.Core.Bool.{Bool, true, false, cond, ◌&&◌}
use mathlib.Core.List.{List, [], ◌∷◌, ◌++◌}
use Prim.Native.Nat.{ℕ, ◌+◌, ◌/◌, ◌%◌}
use borrow.Author.Tests.{eqb-true}
use lib.Dec.{eqb}
use lib.ListN.{get_or, replicate}
use Rattle.logic.proofs.Bools.{clash, and_left, and_right, and_true}
use Rattle.geometry.specs.declared.Block.{Block}
use Rattle.image.specs.FormA.{form_a}
use Rattle.image.specs.FormB.{form_b}
use Rattle.buffer.specs.Runs.{same}
use Rattle.buffer.proofs.Compare.{same_equal}
use Rattle.drive.specs.declared.Drive.{Drive}
use Rattle.drive.specs.declared.Answer.{Answer}
use Rattle.drive.specs.declared.Answer.TheVariants as answer
use Rattle.drive.specs.Words.{response, code_of, data_of}
use Rattle.drive.specs.Results.{Out}
use Rattle.drive.specs.Calls.{Call, raise, lower, feed, surface, reset, started, start_of}
use Rattle.drive.specs.History.{Content, held, unreadable, Sectors, Line, entry, restart, History, blank, past, past_all}
use Rattle.drive.specs.Surface.{Brings, Fate}
use Rattle.drive.specs.Run.{Moment, call, power, World, after, Rule, Unless, Permits, made, Lawful, lines, line_of, after_all, begins}
use Rattle.drive.specs.Views.{Bytes, Where, nowhere, at, of_answer}

-- THE SURFACE'S RULES, AS A TEST

abbrev pub holds : Content → Bytes → Bool
holds (held x) bs = same x bs
holds unreadable bs = false

abbrev pub brings_it : Where → Bool → Bytes → Sectors → Bool
brings_it nowhere done bs σ = true
brings_it (at s) true bs σ = holds (σ s) bs
brings_it (at s) false bs σ = true

abbrev pub keeps : World → Call → Bool
keeps w raise = true
keeps w (lower b) = true
keeps w (feed bs) = true
keeps w (surface a bs) = brings_it (of_answer w.asked).read (eqb a 0) bs w.sectors
keeps w reset = true

abbrev pub permitted : World → Moment → Out → Bool
permitted w (call e) x = cond (of_answer x.step.answer).refused true (keeps w e.call)
permitted w (power d u f) x = true

abbrev pub is_lawful : World → List Moment → Bool
is_lawful w [] = true
is_lawful w (m ∷ ms) = permitted w m (made w m) && is_lawful (after w m (made w m)) ms

holds_held : (c : Content) (bs : Bytes) → holds c bs ≡ true → c ≡ held bs
holds_held (held x) bs h = rw (same_equal x bs h)
holds_held unreadable bs h = clash h refl

brings_it_lem : (p : Where) (done : Bool) (bs : Bytes) (σ : Sectors) → brings_it p done bs σ ≡ true → Brings p done bs σ
brings_it_lem nowhere done bs σ h = tt
brings_it_lem (at s) true bs σ h = holds_held (σ s) bs h
brings_it_lem (at s) false bs σ h = tt

keeps_rule : (w : World) (c : Call) → keeps w c ≡ true → Rule w c
keeps_rule w raise h = tt
keeps_rule w (lower b) h = tt
keeps_rule w (feed bs) h = tt
keeps_rule w (surface a bs) h = brings_it_lem (of_answer w.asked).read (eqb a 0) bs w.sectors h
keeps_rule w reset h = tt

is_permitted : (w : World) (c : Call) (refused : Bool) → cond refused true (keeps w c) ≡ true → Unless refused (Rule w c)
is_permitted w c true h = tt
is_permitted w c false h = keeps_rule w c h

permits : (w : World) (m : Moment) (x : Out) → permitted w m x ≡ true → Permits w m x
permits w (call e) x h = is_permitted w e.call (of_answer x.step.answer).refused h
permits w (power d u f) x h = tt

lawful_by_test : (w : World) (ms : List Moment) → is_lawful w ms ≡ true → Lawful w ms
lawful_by_test w [] h = tt
lawful_by_test w (m ∷ ms) h =
    let p = permitted w m (made w m) in
    let w' = after w m (made w m) in (
      permits w m (made w m) (and_left p (is_lawful w' ms) h),
      lawful_by_test w' ms (and_right p (is_lawful w' ms) h),
    )

-- TRANSCRIPTS

-- Names an answer in document 01's numbers; a finish with the four status bytes that it leaves.
pub data Said : Type 0 where
  wait : Said
  offer : ℕ → Said
  read : ℕ → Said
  write : ℕ → Said
  store : Said
  finished : ℕ → ℕ → ℕ → ℕ → Said
  refused : ℕ → Said

abbrev pub said_by : Answer → Bytes → Said
said_by answer.Wait u = wait
said_by (answer.Offer o) u = offer (response o)
said_by (answer.Read s) u = read s.0
said_by (answer.Write s) u = write s.0
said_by answer.Store u = store
said_by answer.Finished u = finished (get_or u 0 0) (get_or u 1 0) (get_or u 2 0) (get_or u 3 0)
said_by (answer.Refused r) u = refused (code_of r)

-- Says what a line says. A start leaves no status.
abbrev pub said_in : Line → Said
said_in (entry o) = said_by o.answer o.buffer
said_in (restart a) = said_by a []

abbrev pub told : List Line → List Said
told [] = []
told (x ∷ xs) = said_in x ∷ told xs

-- Holds a call or a start beside its answer.
pub record Exchange : Type 0 where
  pub moment : Moment
  pub says : Said

infix 80 ◌⇒◌
infix 80 ◌⇏◌
abbrev pub ◌⇒◌ : Call → Said → Exchange
c ⇒ a = record { moment = call (record { call = c; spoils = false }); says = a }

-- Does the same where the write so answered leaves an unreadable sector.
abbrev pub ◌⇏◌ : Call → Said → Exchange
c ⇏ a = record { moment = call (record { call = c; spoils = true }); says = a }

-- Starts, after the power failed with what is pending left so. The record that it is given awaits something else than the last
-- one did, and its buffer is another.
abbrev pub cuts : Fate → Exchange
cuts f = record { moment = power started (replicate 536 1) f; says = read 4960 }

abbrev pub moments : List Exchange → List Moment
moments [] = []
moments (t ∷ ts) = t.moment ∷ moments ts

abbrev pub answers : List Exchange → List Said
answers [] = []
answers (t ∷ ts) = t.says ∷ answers ts

-- Is the block that the runs are about.
abbrev pub key : Block
key = record { 0 = 17 }

-- Holds a list of calls with its answers, and what it leaves: the data part, and the block's sector and candidates in the history.
pub record Run : Type 0 where
  pub sectors : Sectors
  pub exchanges : List Exchange
  pub part : Bytes
  pub place : Where
  pub candidates : List Bytes

-- Starts any record, on these sectors.
abbrev pub from : Drive → Run → World
from given r = begins (start_of given (replicate 536 1)) r.sectors

abbrev pub calls : Run → List Moment
calls r = moments r.exchanges

abbrev pub entered : Drive → Run → List Line
entered given r = lines (from given r) (calls r)

abbrev pub history : Drive → Run → History
history given r = past_all r.sectors blank (entered given r)

pub record Happens (given : Drive) (r : Run) : Type 0 where
  pub lawful : Lawful (from given r) (calls r)
  pub says : told (entered given r) ≡ answers r.exchanges
  pub part : data_of (after_all (from given r) (calls r)).buffer ≡ r.part
  pub place : (history given r).place key ≡ r.place
  pub candidates : (history given r).candidates key ≡ r.candidates

-- ONE FOLD TESTS THESE FIVE FACTS: it computes each call once, and stops at the first thing that is another

-- Writes an answer as numbers, and reads it back.
abbrev pub spelled : Said → List ℕ
spelled wait = 0 ∷ []
spelled (offer n) = 1 ∷ n ∷ []
spelled (read s) = 2 ∷ s ∷ []
spelled (write s) = 3 ∷ s ∷ []
spelled store = 4 ∷ []
spelled (finished a b c d) = 5 ∷ a ∷ b ∷ c ∷ d ∷ []
spelled (refused n) = 6 ∷ n ∷ []

abbrev read_back : List ℕ → Said
read_back l =
    cond (eqb (get_or l 0 0) 0) wait
    (cond (eqb (get_or l 0 0) 1) (offer (get_or l 1 0))
    (cond (eqb (get_or l 0 0) 2) (read (get_or l 1 0))
    (cond (eqb (get_or l 0 0) 3) (write (get_or l 1 0))
    (cond (eqb (get_or l 0 0) 4) store
    (cond (eqb (get_or l 0 0) 5) (finished (get_or l 1 0) (get_or l 2 0) (get_or l 3 0) (get_or l 4 0)) (refused (get_or l 1 0)))))))

read_back_lem : (a : Said) → read_back (spelled a) ≡ a
read_back_lem wait = refl
read_back_lem (offer n) = refl
read_back_lem (read s) = refl
read_back_lem (write s) = refl
read_back_lem store = refl
read_back_lem (finished a b c d) = refl
read_back_lem (refused n) = refl

abbrev pub same_said : Said → Said → Bool
same_said a b = same (spelled a) (spelled b)

same_said_lem : (a b : Said) → same_said a b ≡ true → a ≡ b
same_said_lem a b h = sym (read_back_lem a) ∙ ap read_back (same_equal (spelled a) (spelled b) h) ∙ read_back_lem b

abbrev pub same_where : Where → Where → Bool
same_where nowhere nowhere = true
same_where nowhere (at k) = false
same_where (at s) nowhere = false
same_where (at s) (at k) = eqb s.0 k.0

pub same_where_lem : (v w : Where) → same_where v w ≡ true → v ≡ w
same_where_lem nowhere nowhere h = refl
same_where_lem nowhere (at k) h = clash h refl
same_where_lem (at s) nowhere h = clash h refl
same_where_lem (at s) (at k) h = ap (λ (n : ℕ). at (record { 0 = n })) (eqb-true s.0 k.0 h)

abbrev pub same_all : List Bytes → List Bytes → Bool
same_all [] [] = true
same_all [] (y ∷ ys) = false
same_all (x ∷ xs) [] = false
same_all (x ∷ xs) (y ∷ ys) = same x y && same_all xs ys

same_all_lem : (xs ys : List Bytes) → same_all xs ys ≡ true → xs ≡ ys
same_all_lem [] [] h = refl
same_all_lem [] (y ∷ ys) h = clash h refl
same_all_lem (x ∷ xs) [] h = clash h refl
same_all_lem (x ∷ xs) (y ∷ ys) h =
    let e = same_equal x y (and_left (same x y) (same_all xs ys) h) in
    let es = same_all_lem xs ys (and_right (same x y) (same_all xs ys) h) in
    cc

abbrev pub agrees : Sectors → World → History → List Exchange → Bytes → Where → List Bytes → Bool
agrees start w H [] part place candidates =
    same (data_of w.buffer) part && (same_where (H.place key) place && same_all (H.candidates key) candidates)
agrees start w H (t ∷ ts) part place candidates =
    let m = t.moment in
    let x = made w m in
    permitted w m x
    && (same_said (said_in (line_of m x)) t.says && agrees start (after w m x) (past start H (line_of m x)) ts part place candidates)

-- Holds what the test says: the five facts.
pub record Agree (start : Sectors) (w : World) (H : History) (ts : List Exchange) (part : Bytes) (place : Where) (candidates : List Bytes) : Type 0 where
  pub lawful : is_lawful w (moments ts) ≡ true
  pub says : told (lines w (moments ts)) ≡ answers ts
  pub part_left : data_of (after_all w (moments ts)).buffer ≡ part
  pub place_left : (past_all start H (lines w (moments ts))).place key ≡ place
  pub candidates_left : (past_all start H (lines w (moments ts))).candidates key ≡ candidates

agree : (start : Sectors) (w : World) (H : History) (ts : List Exchange) (part : Bytes) (place : Where) (candidates : List Bytes)
    → agrees start w H ts part place candidates ≡ true
    → Agree start w H ts part place candidates
agree start w H [] part place candidates h =
    let first = same (data_of w.buffer) part in
    let second = same_where (H.place key) place in
    let third = same_all (H.candidates key) candidates in
    let rest = and_right first (second && third) h in
    record {
      lawful = refl;
      says = refl;
      part_left = same_equal (data_of w.buffer) part (and_left first (second && third) h);
      place_left = same_where_lem (H.place key) place (and_left second third rest);
      candidates_left = same_all_lem (H.candidates key) candidates (and_right second third rest);
    }
agree start w H (t ∷ ts) part place candidates h =
    let m = t.moment in
    let x = made w m in
    let said = said_in (line_of m x) in
    let more = agrees start (after w m x) (past start H (line_of m x)) ts part place candidates in
    let rest = and_right (permitted w m x) (same_said said t.says && more) h in
    let after_it = agree start (after w m x) (past start H (line_of m x)) ts part place candidates (and_right (same_said said t.says) more rest) in
    let same_answer = same_said_lem said t.says (and_left (same_said said t.says) more rest) in
    record {
      lawful = and_true (permitted w m x) (is_lawful (after w m x) (moments ts)) (and_left (permitted w m x) (same_said said t.says && more) h) after_it.lawful;
      says = ap (λ (a : Said). a ∷ told (lines (after w m x) (moments ts))) same_answer ∙ ap (λ (l : List Said). t.says ∷ l) after_it.says;
      part_left = after_it.part_left;
      place_left = after_it.place_left;
      candidates_left = after_it.candidates_left;
    }

-- Plays a run, and tests what it says of itself.
abbrev pub played : Drive → Run → Bool
played given r = agrees r.sectors (from given r) blank r.exchanges r.part r.place r.candidates

pub happens : (given : Drive) (r : Run) → played given r ≡ true → Happens given r
happens given r e =
    let h = agree r.sectors (from given r) blank r.exchanges r.part r.place r.candidates e in
    record { lawful = lawful_by_test (from given r) (calls r) h.lawful; says = h.says; part = h.part_left; place = h.place_left; candidates = h.candidates_left }

-- THE PIECES OF A RUN

-- Returns a block of one byte all over.
abbrev pub bytes : ℕ → Bytes
bytes v = replicate 532 v

-- Returns sectors with a table of these lists, and sevens in all the others.
abbrev pub disk : List ℕ → List ℕ → Sectors
disk spares bads = λ s. held (cond (eqb s.0 4960) (form_a spares bads) (bytes 7))

abbrev pub sector : ℕ → Where
sector n = at (record { 0 = n })

-- Lowers with 55, and answers for the surface.
abbrev pub go : Call
go = lower 0x55

abbrev pub gives : ℕ → Call
gives v = surface 0 (bytes v)

abbrev pub done : Call
done = surface 0 []

abbrev pub garbles : ℕ → Call
garbles v = surface 1 (bytes v)

abbrev pub times_out : Call
times_out = surface 2 []

abbrev pub unsettled : Call
unsettled = surface 3 []

-- Finds the table at the start's read, in form A.
abbrev pub found : List ℕ → List ℕ → List Exchange
found spares bads = surface 0 (form_a spares bads) ⇒ wait ∷ []

-- Finds it in form B, with this run number and these causes.
abbrev pub found_b : ℕ → List ℕ → List ℕ → List ℕ → List Exchange
found_b run spares causes bads = surface 0 (form_b run spares causes bads) ⇒ wait ∷ []

-- Raises in idle: there is no store, whatever is unstored.
abbrev pub opens : List Exchange
opens = raise ⇒ offer 0x01 ∷ []

-- Ends a command with a store: its last call asks for it, the store is done, and the command is finished so.
abbrev pub stored : Call → Said → List Exchange
stored c end = c ⇒ store ∷ done ⇒ end ∷ []

-- Feeds a command from there to the offer after which it is acted on.
abbrev pub command : ℕ → ℕ → Bytes → Bytes
command op n more = op ∷ n / 65536 ∷ n / 256 % 256 ∷ n % 256 ∷ more

abbrev pub asks_read : ℕ → ℕ → ℕ → List Exchange
asks_read n R T = go ⇒ wait ∷ feed (command 0 n (R ∷ T ∷ [])) ⇒ wait ∷ raise ⇒ offer 0x02 ∷ []

abbrev pub asks_write : ℕ → ℕ → Bytes → List Exchange
asks_write op n x =
    go ⇒ wait ∷ feed (command op n []) ⇒ wait ∷ raise ⇒ offer (op + 2) ∷ go ⇒ wait ∷ feed x ⇒ wait ∷ raise ⇒ offer 0x06 ∷ []

-- Rereads sector s in a trial: each reread is answered so and leads to the next, and the last leads to what is said.
abbrev pub rereads : ℕ → List Call → Said → List Exchange
rereads s [] end = []
rereads s (c ∷ []) end = c ⇒ end ∷ []
rereads s (c ∷ k ∷ cs) end = c ⇒ read s ∷ rereads s (k ∷ cs) end

-- Answers a hundred rereads: 70 bring the byte v, and 30 fail at the end, the hundredth among them.
abbrev pub thirty_fail : ℕ → Call → List Call
thirty_fail v failure = replicate 70 (gives v) ++ replicate 30 failure

-- Makes the trial of a sector, from the answer to its write on: that is done, and 30 rereads fail.
abbrev pub trial : ℕ → ℕ → Call → Said → List Exchange
trial s v failure end = done ⇒ read s ∷ rereads s (thirty_fail v failure) end

-- Reads the table's image, with status 3 of its finish.
abbrev pub asks_table : ℕ → List Exchange
asks_table status3 = asks_read 0xFFFFFF 0 0 ++ (go ⇒ finished 0x00 0x00 status3 0 ∷ [])

-- Reads FFFFFD with R 255 and T 0, with status 3 of its finish.
abbrev pub asks_health : ℕ → List Exchange
asks_health status3 = asks_read 0xFFFFFD 255 0 ++ (go ⇒ finished 0x00 0x00 status3 0 ∷ [])

-- Returns the health block of these figures.
abbrev pub health_block : ℕ → ℕ → ℕ → ℕ → Bytes
health_block unused bads latch unstored = unused ∷ bads ∷ latch ∷ unstored ∷ replicate 528 0

-- Makes a read that fails by eleven timeouts, up to the last: that of a block which enters the bad list asks for the store.
abbrev pub ten_timeouts : List Exchange
ten_timeouts = opens ++ asks_read 17 0 1 ++ (go ⇒ read 17 ∷ []) ++ replicate 10 (times_out ⇒ read 17)

-- Makes it whole, with this answer to its store and this finish.
abbrev pub eleven_timeouts : Call → Said → List Exchange
eleven_timeouts c end = ten_timeouts ++ (times_out ⇒ store ∷ c ⇒ end ∷ [])
