-- Document 01, "Calls" and "Acting on a command", with requests 1, 3 and 7 of document 02: raise, lower, feed and reset.
use Rattle.std.specs.Prelude.{Bool, true, false, cond, not, ◌&&◌, ◌||◌, List, ℕ, ◌+◌, ◌-◌, min, ltb, leb, eqb, length, take, None, Some}
use Rattle.geometry.specs.Geometry.{is_block}
use Rattle.lists.specs.Lists.{member_of}
use Rattle.table.specs.declared.Table.{Table}
use Rattle.table.specs.Tables.{spare_list, bad_list, sector_of}
use Rattle.buffer.specs.Runs.{over}
use Rattle.drive.specs.declared.State.{State}
use Rattle.drive.specs.declared.Marks.{Marks}
use Rattle.drive.specs.declared.Offer.{Offer}
use Rattle.drive.specs.declared.Offer.TheVariants as offer
use Rattle.drive.specs.declared.Access.TheVariants as access
use Rattle.drive.specs.declared.Phase.{Phase}
use Rattle.drive.specs.declared.Phase.TheVariants as phase
use Rattle.drive.specs.declared.Answer.TheVariants as answer
use Rattle.drive.specs.declared.Refusal.TheVariants as refusal
use Rattle.drive.specs.declared.Ending.TheVariants as ending
use Rattle.drive.specs.declared.Change.TheVariants as change
use Rattle.drive.specs.declared.Four.{Four}
use Rattle.drive.specs.declared.Part.TheVariants as part
use Rattle.drive.specs.declared.Turn.{Turn}
use Rattle.drive.specs.declared.Kind.{Kind}
use Rattle.drive.specs.declared.Order.{Order}
use Rattle.drive.specs.Words.{is_read, is_write, is_verify, order_of, block_of}
use Rattle.drive.specs.Results.{in_phase, with_marks, refuse, say, ends, finish, clean, on_present}
use Rattle.drive.specs.Sparing.{begin}

-- RAISE

-- Returns the state with an offer made, n command bytes kept and no data byte fed for this command.
abbrev pub opened : State → Offer → ℕ → State
opened l o n = record { phase = phase.Offered o; marks = l.marks; command = l.command; count = n; fed = 0; run = l.run }

-- Offers 01. Raise, idle: "offer 01"; by request 7 of document 02 "The store on raise falls away." After command bytes that are no
-- command it "drops the bytes".
abbrev pub offers_command : State → Turn
offers_command l = say (opened l offer.Command 0) (answer.Offer offer.Command)

-- Returns the offer for a command of n bytes. "opcode 00, 01, 02 (hex) offers 02, 03, 04; fewer than 6 bytes for a read or 4 for
-- a write, or another opcode, offers 01"
unfoldable pub offer_for : Kind → ℕ → Offer
offer_for k n =
    cond (is_read k && leb 6 n) offer.Read (cond (is_write k && leb 4 n) offer.Write (cond (is_verify k && leb 4 n) offer.Verify offer.Command))

-- Returns how many command bytes are kept with an offer.
abbrev pub kept_bytes : Offer → ℕ → ℕ
kept_bytes offer.Command n = 0
kept_bytes offer.Read n = n
kept_bytes offer.Write n = n
kept_bytes offer.Verify n = n
kept_bytes offer.Act n = n

-- Makes an offer.
abbrev pub offers : State → Offer → Turn
offers l o = say (opened l o (kept_bytes o l.count)) (answer.Offer o)

-- Offers 06. "Raise after data: offer 06." Document 02, request 1: "When fewer than 532 are fed, the rest of the data part is
-- now zeroed at the raise that offers 06."
abbrev pub offers_act : State → Turn
offers_act l =
    record { state = in_phase l (phase.Offered offer.Act); answer = answer.Offer offer.Act; change = change.Keep; leaves = record { status = None; part = part.Zeroed l.fed } }

-- Returns what a raise does in each phase.
unfoldable pub raised : Phase → State → Turn
raised phase.Idle l = offers_command l
raised (phase.Offered o) l = refuse refusal.Place l
raised phase.Command l = offers l (offer_for (order_of l.command).kind l.count)
raised phase.Data l = offers_act l
raised (phase.Awaiting x) l = refuse refusal.Place l

-- ACTING ON A COMMAND

-- Asks for the first read. "Read. One read"
abbrev pub first_read : Order → State → List ℕ → Turn
first_read o l spares =
    let s = sector_of spares (block_of o) in
    say (in_phase l (phase.Awaiting (access.Read (record { block = block_of o; sector = s; first = true; left = o.retries; spent = 0; threshold = o.threshold; good = false; seen = clean }))))
    (answer.Read s)

-- Asks for the write. "Write is one write"; a write/verify reads it back.
abbrev pub first_write : Order → State → List ℕ → Turn
first_write o l spares =
    let s = sector_of spares (block_of o) in
    say (in_phase l (phase.Awaiting (access.Write (record { block = block_of o; sector = s; verify = not (is_write o.kind) })))) (answer.Write s)

-- Begins with the trial of the present sector.
abbrev pub first_trial : Order → State → List ℕ → Turn
first_trial o l spares = begin l change.Keep (on_present (block_of o) (sector_of spares (block_of o)) clean) part.Kept

-- Says whether the block is in the bad list.
abbrev pub is_listed : Order → Table → Bool
is_listed o t = member_of o.number (bad_list t)

-- Writes a block, not under the latch. "any write to a block in the bad list starts with it": with a trial
unfoldable pub writes : Order → State → Table → Turn
writes o l t = cond (is_listed o t) (first_trial o l (spare_list t)) (first_write o l (spare_list t))

-- THE TESTS OF THE LADDER

-- Says whether more than 532 data bytes were fed.
abbrev pub too_long : State → Bool
too_long l = ltb 532 l.fed

-- Says whether a number asks for the buffer, for the table, for the health block.
abbrev pub asks_buffer : ℕ → Bool
asks_buffer v = eqb v 0xFFFFFE

abbrev pub asks_table : ℕ → Bool
asks_table v = eqb v 0xFFFFFF

abbrev pub asks_health : ℕ → Bool
asks_health v = eqb v 0xFFFFFD

-- Says whether a number is nothing's. "number neither a block, FFFFFE, nor FFFFFF on a read"; by request 3 of document 02 nor
-- FFFFFD on a read.
unfoldable pub no_number : Kind → ℕ → Bool
no_number k v = not (is_block v) && not (asks_buffer v) && not ((asks_table v || asks_health v) && is_read k)

-- Returns the figures of the health block. Document 02, request 3: "byte 0 unused spares, byte 1 bad entries, byte 2 one under
-- the latch else 0, byte 3 one with unstored changes else 0, then zeros". Given are the counts of the two lists; a dead spare is
-- in its list, so it is used.
unfoldable pub health : ℕ → ℕ → Marks → Four
health spares bads m = record { 0 = 32 - spares; 1 = bads; 2 = cond m.latch 1 0; 3 = cond m.changed 1 0 }

-- Ends a command that was fed too much. Document 02, request 7, "Any command acted on with a block's number": it may store.
unfoldable pub overruns : Order → State → Turn
overruns o l = cond (is_block o.number) (finish l change.Keep ending.Overrun clean part.Kept) (ends l ending.Overrun part.Kept)

-- Acts on a command. "First that applies": more than 532 data bytes; no such number; FFFFFE; no table; FFFFFF, and beside it
-- FFFFFD; a write under the latch. With no table nothing is stored.
unfoldable pub acted : Order → State → Table → Turn
acted o l t =
    cond (too_long l) (overruns o l)
    (cond (no_number o.kind o.number) (ends l ending.NoNumber part.Kept)
    (cond (asks_buffer o.number) (ends l ending.Good part.Kept)
    (cond (not l.marks.known) (ends l (ending.NoTable (not (is_read o.kind))) part.Kept)
    (cond (asks_table o.number) (ends l ending.Good part.Image)
    (cond (asks_health o.number) (ends l ending.Good (part.Figures (health t.nspares t.nbads l.marks)))
    (cond (is_read o.kind) (first_read o l (spare_list t))
    (cond l.marks.latch (finish l change.Keep ending.Latched clean part.Kept) (writes o l t))))))))

-- LOWER

-- Returns what the host's yes to an offer does. "Lower with 55 hex goes on: after 01, take command bytes; 02, read; 03 or 04,
-- take data; 06, write."
unfoldable pub goes_on : Offer → State → Table → Turn
goes_on offer.Command l t = say (in_phase l phase.Command) answer.Wait
goes_on offer.Read l t = acted (order_of l.command) l t
goes_on offer.Write l t = say (in_phase l phase.Data) answer.Wait
goes_on offer.Verify l t = say (in_phase l phase.Data) answer.Wait
goes_on offer.Act l t = acted (order_of l.command) l t

-- Breaks the handshake off. "Any other byte: status 80 00 00 00, idle, finished."
abbrev pub broken_off : State → Turn
broken_off l =
    record { state = in_phase l phase.Idle; answer = answer.Finished; change = change.Keep; leaves = record { status = Some (record { 0 = 0x80; 1 = 0x00; 2 = 0x00; 3 = 0x00 }); part = part.Kept } }

-- Returns what a lower does in each phase.
unfoldable pub lowered : Phase → State → Table → ℕ → Turn
lowered phase.Idle l t b = refuse refusal.Place l
lowered (phase.Offered o) l t b = cond (eqb b 0x55) (goes_on o l t) (broken_off l)
lowered phase.Command l t b = refuse refusal.Place l
lowered phase.Data l t b = refuse refusal.Place l
lowered (phase.Awaiting x) l t b = refuse refusal.Place l

-- FEED

-- Takes command bytes. "six are kept, later ones ignored"
abbrev pub fed_command : State → List ℕ → Turn
fed_command l bs =
    say (record { phase = phase.Command; marks = l.marks; command = over l.count (take (6 - l.count) bs) l.command; count = min 6 (l.count + length bs); fed = l.fed; run = l.run })
    answer.Wait

-- Takes n data bytes. "Data fills the data part from its start; fewer than 532 leave the rest of the part as it was" until
-- the raise that offers 06; "bytes after the 532nd are dropped, the count stopping at 533."
abbrev pub fed_data : State → ℕ → Turn
fed_data l n =
    record {
      state = record { phase = phase.Data; marks = l.marks; command = l.command; count = l.count; fed = min 533 (l.fed + n); run = l.run };
      answer = answer.Wait;
      change = change.Keep;
      leaves = record { status = None; part = part.Filled l.fed };
    }

-- Returns what a feed does in each phase.
unfoldable pub fed_to : Phase → State → List ℕ → Turn
fed_to phase.Idle l bs = refuse refusal.Place l
fed_to (phase.Offered o) l bs = refuse refusal.Place l
fed_to phase.Command l bs = fed_command l bs
fed_to phase.Data l bs = fed_data l (length bs)
fed_to (phase.Awaiting x) l bs = refuse refusal.Place l

-- RESET

-- Goes to rest. "Reset in idle or handshake gives idle with CMD taken as low; table, its unstored mark, latch and buffer stay." So does
-- the mark of an unstored place.
-- Status 3 bit 7 is due again.
abbrev pub at_rest : State → Turn
at_rest l =
    say (with_marks l (record { known = l.marks.known; changed = l.marks.changed; moved = l.marks.moved; latch = l.marks.latch; fresh = true }) phase.Idle) answer.Wait

-- Returns what a reset does in each phase.
unfoldable pub rested : Phase → State → Turn
rested phase.Idle l = at_rest l
rested (phase.Offered o) l = at_rest l
rested phase.Command l = at_rest l
rested phase.Data l = at_rest l
rested (phase.Awaiting x) l = refuse refusal.Place l
