-- The calls between commands: handshake, command bytes, data bytes.
use mathlib.Core.Path.{◌≡◌, refl, sym, subst}
use mathlib.Core.Bool.{Bool, true, false, cond, ◌&&◌}
use mathlib.Core.List.{List, []}
use Prim.Native.Nat.{ℕ}
use native.Mathlib.Omega.{arith}
use lib.Dec.{eqb, leb}
use lib.ListN.{length}
use borrow.Author.Tests.{eqb-true}
use Rattle.geometry.specs.declared.Block.{Block}
use Rattle.logic.proofs.Bools.{clash, and_left, and_right}
use Rattle.table.specs.declared.Table.{Table}
use Rattle.table.specs.Tables.{table_ok}
use Rattle.buffer.specs.Runs.{same}
use Rattle.drive.specs.declared.State.{State}
use Rattle.drive.specs.declared.Kind.{Kind}
use Rattle.drive.specs.declared.Kind.TheVariants as kind
use Rattle.drive.specs.declared.Marks.{Marks}
use Rattle.drive.specs.declared.Offer.{Offer}
use Rattle.drive.specs.declared.Offer.TheVariants as offer
use Rattle.drive.specs.declared.Access.{Access}
use Rattle.drive.specs.declared.Turn.{Turn}
use Rattle.drive.specs.declared.Phase.{Phase}
use Rattle.drive.specs.declared.Phase.TheVariants as phase
use Rattle.drive.specs.declared.Answer.{Answer}
use Rattle.drive.specs.declared.Answer.TheVariants as answer
use Rattle.drive.specs.declared.Refusal.TheVariants as refusal
use Rattle.drive.specs.Words.{data_of, kind_of, is_read, is_write, is_verify}
use Rattle.drive.specs.Results.{part_left, status_left, out_of}
use Rattle.drive.specs.Handshake.{offers, raised, goes_on, lowered, fed_to, rested, broken_off}
use Rattle.drive.specs.Access.{asks_read, bytes_fit, follows, answered, is_compared, verifies}
use Rattle.drive.specs.Calls.{Call, raise, lower, feed, surface, reset}
use Rattle.drive.specs.History.{Sectors, History, next, heard, learns, acts, underway, touches, touches_first, reports, place_next, candidates_next}
use Rattle.drive.specs.Run.{World}
use Rattle.drive.specs.Views.{Bytes, Where}
use Rattle.records.proofs.Ladders.{fitting_cases, offer_for_cases, lowered_cases}
use Rattle.demands.proofs.Parts.{data_length, Prefix, prefix_none, prefix_more, data_fed, data_padded, Cmd, cmd_of, cmd_more}
use Rattle.demands.proofs.Sim.{state_of, world_of, history_of, Ground, Sound, Shake, resting, offer1, heads, offer2, offer3, offer4, takes, offer6, Sim, at_rest, Good, ev, declined}
use Rattle.demands.proofs.Entries.{fits_silent}
use Rattle.demands.proofs.Acting.{acts_well}

-- Returns what a call's own rule says, after the codes 1 and 2.
abbrev pub ruled : Call → Table → State → Bytes → Turn
ruled raise t l u = raised l.phase l
ruled (lower b) t l u = lowered l.phase l t b
ruled (feed bs) t l u = fed_to l.phase l bs
ruled (surface a bs) t l u = answered l.phase l t a bs (verifies l.phase a && same bs (data_of u))
ruled reset t l u = rested l.phase l

-- Returns the bytes lent with a call.
abbrev pub loads : Call → Bytes
loads raise = []
loads (lower b) = []
loads (feed bs) = bs
loads (surface a bs) = bs
loads reset = []

-- Says that a call keeps the invariant with its own rule's result.
abbrev pub Keeps : Sectors → World → History → Call → Bool → Type 0
Keeps start w H x sp = Good start w H (ev x sp) (out_of w.drive.table w.drive.causes (loads x) w.buffer (ruled x w.drive.table w.drive.state w.buffer))

-- A write or a write/verify is no read.
not_read : (k : Kind) (plain : Bool) → cond plain (is_write k) (is_verify k) ≡ true → is_read k ≡ false
not_read kind.Read true e = sym e
not_read kind.Read false e = sym e
not_read kind.Write plain e = refl
not_read kind.Verify plain e = refl
not_read kind.Other plain e = refl

-- WHILE AN ACCESS IS AWAITED only the surface's answer is in place, and one that codes 4 and 5 do not refuse is left to show.
module _ {start : Sectors} {t : Table} {cs : Bytes} {mk : Marks} {c : Bytes} {n f rn : ℕ} {x : Access} {u : Bytes} {σ : Sectors} {a : Answer} {H : History} (m : Sim start (world_of t cs (state_of (phase.Awaiting x) mk c n f rn) u σ a) H) where
  abbrev Ga : ℕ → Bytes → Bool → Turn → Type 0
  Ga b bs sp y = Good start (world_of t cs (state_of (phase.Awaiting x) mk c n f rn) u σ a) H (ev (surface b bs) sp) (out_of t cs bs u y)

  pub awaiting : ((b : ℕ) (bs : Bytes) (sp : Bool) → bytes_fit (asks_read x) b (length bs) ≡ true → Ga b bs sp (follows x (state_of (phase.Awaiting x) mk c n f rn) t b bs (is_compared x && eqb b 0 && same bs (data_of u))))
      → (k : Call) (sp : Bool) → Keeps start (world_of t cs (state_of (phase.Awaiting x) mk c n f rn) u σ a) H k sp
  unfolding raised lowered fed_to rested answered
  awaiting g raise sp = declined raise sp refusal.Place [] m
  awaiting g (lower b) sp = declined (lower b) sp refusal.Place [] m
  awaiting g (feed bs) sp = declined (feed bs) sp refusal.Place bs m
  awaiting g (surface b bs) sp =
      fitting_cases (Ga b bs sp) (asks_read x) (state_of (phase.Awaiting x) mk c n f rn) b (length bs) _
      (record { answer = λ p. declined (surface b bs) sp refusal.Answer bs m; bytes = λ p q. declined (surface b bs) sp refusal.Bytes bs m; fits = λ p q. g b bs sp q })
  awaiting g reset sp = declined reset sp refusal.Place [] m

module _ (start σ : Sectors) (t : Table) (cs : Bytes) (pl : Block → Where) (ca : Block → List Bytes) (ln fn : Bool) where
  abbrev Kp : Phase → Marks → Bytes → ℕ → ℕ → ℕ → Bytes → Answer → Bytes → Bytes → Bool → Bool → Where → Call → Bool → Type 0
  Kp p mk c n f rn u a h fd to wr lr x sp = Keeps start (world_of t cs (state_of p mk c n f rn) u σ a) (history_of pl ca a h fd false to wr lr ln fn) x sp

  abbrev Sm : Phase → Marks → Bytes → ℕ → ℕ → ℕ → Bytes → Answer → Bytes → Bytes → Bool → Bool → Where → Type 0
  Sm p mk c n f rn u a h fd to wr lr = Sim start (world_of t cs (state_of p mk c n f rn) u σ a) (history_of pl ca a h fd false to wr lr ln fn)

  -- Every call in idle keeps the invariant.
  rest_idle : {mk : Marks} {u c : Bytes} {n f rn : ℕ} {h fd : Bytes} {to' wr : Bool} {lr : Where} {a : Answer} → length c ≡ 6 → Sound mk → Ground start mk.known mk.moved t σ pl ca ln fn
      → Sm phase.Idle mk c n f rn u a h fd to' wr lr → (x : Call) (sp : Bool) → Kp phase.Idle mk c n f rn u a h fd to' wr lr x sp
  unfolding part_left status_left raised lowered fed_to rested answered next heard learns acts underway touches touches_first reports place_next candidates_next
  rest_idle lc so gr m raise sp = λ ok. (fits_silent _ _ refl refl, at_rest lc so gr offer1)
  rest_idle lc so gr m (lower b) sp = declined (lower b) sp refusal.Place [] m
  rest_idle lc so gr m (feed bs) sp = declined (feed bs) sp refusal.Place bs m
  rest_idle lc so gr m (surface b bs) sp = declined (surface b bs) sp refusal.Place bs m
  rest_idle lc so gr m reset sp = λ ok. (fits_silent _ _ refl refl, at_rest lc so gr (resting refl refl))

  -- So does another handshake byte: the command, if any, is neither good nor failed.
  breaks_off : {mk : Marks} {u c : Bytes} {n f rn : ℕ} {q : Offer} {h fd : Bytes} {to' wr : Bool} {lr : Where} → length c ≡ 6 → Sound mk → Ground start mk.known mk.moved t σ pl ca ln fn
      → Sm (phase.Offered q) mk c n f rn u (answer.Offer q) h fd to' wr lr → (b : ℕ) (sp : Bool) → eqb b 0x55 ≡ false
      → Good start (world_of t cs (state_of (phase.Offered q) mk c n f rn) u σ (answer.Offer q)) (history_of pl ca (answer.Offer q) h fd false to' wr lr ln fn) (ev (lower b) sp) (out_of t cs [] u (broken_off (state_of (phase.Offered q) mk c n f rn)))
  unfolding part_left status_left next heard learns acts underway touches touches_first reports place_next candidates_next
  breaks_off lc so gr m b sp e = λ ok. (fits_silent _ _ (rw e) (rw e), rw e (at_rest lc so gr (resting refl refl)))

  -- So does every call while an offer is made, if the lower with 55 does,
  rest_offered : {mk : Marks} {u c : Bytes} {n f rn : ℕ} {q : Offer} {h fd : Bytes} {to' wr : Bool} {lr : Where} → length c ≡ 6 → Sound mk → Ground start mk.known mk.moved t σ pl ca ln fn
      → Sm (phase.Offered q) mk c n f rn u (answer.Offer q) h fd to' wr lr
      → ((sp : Bool) → Good start (world_of t cs (state_of (phase.Offered q) mk c n f rn) u σ (answer.Offer q)) (history_of pl ca (answer.Offer q) h fd false to' wr lr ln fn) (ev (lower 0x55) sp) (out_of t cs [] u (goes_on q (state_of (phase.Offered q) mk c n f rn) t)))
      → (x : Call) (sp : Bool) → Kp (phase.Offered q) mk c n f rn u (answer.Offer q) h fd to' wr lr x sp
  unfolding part_left status_left raised lowered fed_to rested answered next heard learns acts underway touches touches_first reports place_next candidates_next
  rest_offered lc so gr m g raise sp = declined raise sp refusal.Place [] m
  rest_offered {mk} {u} {c} {n} {f} {rn} {q} {h} {fd} {to'} {wr} {lr} lc so gr m g (lower b) sp =
      lowered_cases (λ (y : Turn). Good start w H (ev (lower b) sp) (out_of t cs [] u y)) q (state_of (phase.Offered q) mk c n f rn) t b
      (record {
        goes = λ e. subst (λ (i : ℕ). Good start w H (ev (lower i) sp) (out_of t cs [] u (goes_on q (state_of (phase.Offered q) mk c n f rn) t))) (sym (eqb-true b 0x55 e)) (g sp);
        breaks = λ e. breaks_off lc so gr m b sp e;
      })
    where
      w : World
      w = world_of t cs (state_of (phase.Offered q) mk c n f rn) u σ (answer.Offer q)

      H : History
      H = history_of pl ca (answer.Offer q) h fd false to' wr lr ln fn
  rest_offered lc so gr m g (feed bs) sp = declined (feed bs) sp refusal.Place bs m
  rest_offered lc so gr m g (surface b bs) sp = declined (surface b bs) sp refusal.Place bs m
  rest_offered lc so gr m g reset sp = λ ok. (fits_silent _ _ refl refl, at_rest lc so gr (resting refl refl))

  -- while command bytes are taken,
  rest_command : {mk : Marks} {u c : Bytes} {n f rn : ℕ} {h fd : Bytes} {to' wr : Bool} {lr : Where} → length u ≡ 536 → length c ≡ 6 → Sound mk → Ground start mk.known mk.moved t σ pl ca ln fn → Prefix 6 6 c n h
      → Sm phase.Command mk c n f rn u answer.Wait h fd to' wr lr → (x : Call) (sp : Bool) → Kp phase.Command mk c n f rn u answer.Wait h fd to' wr lr x sp
  unfolding part_left status_left raised lowered fed_to rested answered next heard learns acts underway touches touches_first reports place_next candidates_next
  rest_command {mk} {u} {c} {n} {f} {rn} {h} {fd} {to'} {wr} {lr} lu lc so gr p m raise sp =
      offer_for_cases P (kind_of c) n
      (record {
        read = λ q. λ ok. (fits_silent _ _ refl refl, at_rest lc so gr (offer2 (cmd_of c h n 6 p (and_right (is_read (kind_of c)) (leb 6 n) q) (omega arith)) (and_left (is_read (kind_of c)) (leb 6 n) q)));
        write = λ q. λ ok. (fits_silent _ _ refl refl, at_rest lc so gr (offer3 (long (is_write (kind_of c)) q) (not_read (kind_of c) true (and_left (is_write (kind_of c)) (leb 4 n) q))));
        verify = λ q. λ ok. (fits_silent _ _ refl refl, at_rest lc so gr (offer4 (long (is_verify (kind_of c)) q) (not_read (kind_of c) false (and_left (is_verify (kind_of c)) (leb 4 n) q))));
        none = λ ok. (fits_silent _ _ refl refl, at_rest lc so gr offer1);
      })
    where
      P : Offer → Type 0
      P o = Good start (world_of t cs (state_of phase.Command mk c n f rn) u σ answer.Wait) (history_of pl ca answer.Wait h fd false to' wr lr ln fn) (ev raise sp) (out_of t cs [] u (offers (state_of phase.Command mk c n f rn) o))

      long : (w : Bool) → (w && leb 4 n) ≡ true → Cmd c h
      long w q = cmd_of c h n 4 p (and_right w (leb 4 n) q) (omega arith)
  rest_command lu lc so gr p m (lower b) sp = declined (lower b) sp refusal.Place [] m
  rest_command {c = c} {n = n} {h = h} lu lc so gr p m (feed bs) sp =
      let p' = prefix_more 6 6 c h bs n (omega arith) p in
      λ ok. (fits_silent _ _ refl refl, at_rest p'.full so gr (heads p'))
  rest_command lu lc so gr p m (surface b bs) sp = declined (surface b bs) sp refusal.Place bs m
  rest_command lu lc so gr p m reset sp = λ ok. (fits_silent _ _ refl refl, at_rest lc so gr (resting refl refl))

  -- while data bytes are taken,
  rest_taking : {mk : Marks} {u c : Bytes} {n f rn : ℕ} {h fd : Bytes} {to' wr : Bool} {lr : Where} → length u ≡ 536 → length c ≡ 6 → Sound mk → Ground start mk.known mk.moved t σ pl ca ln fn → Cmd c h → is_read (kind_of c) ≡ false
      → Prefix 532 533 (data_of u) f fd
      → Sm phase.Data mk c n f rn u answer.Wait h fd to' wr lr → (x : Call) (sp : Bool) → Kp phase.Data mk c n f rn u answer.Wait h fd to' wr lr x sp
  unfolding part_left status_left raised lowered fed_to rested answered next heard learns acts underway touches touches_first reports place_next candidates_next
  rest_taking {u = u} {f = f} {fd = fd} lu lc so gr cm op tk m raise sp = λ ok. (fits_silent _ _ refl refl, at_rest lc so gr (offer6 cm op (data_padded u fd f lu tk)))
  rest_taking lu lc so gr cm op tk m (lower b) sp = declined (lower b) sp refusal.Place [] m
  rest_taking {mk} {u} {c} {n} {f} {rn} {h} {fd} lu lc so gr cm op tk m (feed bs) sp =
      λ ok. (fits_silent _ _ refl refl, at_rest lc so gr (takes (cmd_more c h bs cm) op (data_fed u bs fd f lu tk)))
  rest_taking lu lc so gr cm op tk m (surface b bs) sp = declined (surface b bs) sp refusal.Place bs m
  rest_taking lu lc so gr cm op tk m reset sp = λ ok. (fits_silent _ _ refl refl, at_rest lc so gr (resting refl refl))

  -- EVERY CALL BETWEEN COMMANDS.
  pub rests : {mk : Marks} {u c : Bytes} {n f rn : ℕ} {p : Phase} {h fd : Bytes} {to' wr : Bool} {lr : Where} {a : Answer} → length u ≡ 536 → table_ok t ≡ true → length c ≡ 6 → Sound mk → Ground start mk.known mk.moved t σ pl ca ln fn → Shake u p c n f a h fd
      → Sm p mk c n f rn u a h fd to' wr lr → (x : Call) (sp : Bool) → Kp p mk c n f rn u a h fd to' wr lr x sp
  unfolding part_left status_left goes_on next heard learns acts underway touches touches_first reports place_next candidates_next
  rests lu ok lc so gr (resting e g) m x sp = rest_idle lc so gr m x sp
  rests {c = c} lu ok lc so gr offer1 m x sp = rest_offered lc so gr m (λ s. λ ok. (fits_silent _ _ refl refl, at_rest lc so gr (heads (prefix_none 6 6 c lc)))) x sp
  rests lu ok lc so gr (heads p) m x sp = rest_command lu lc so gr p m x sp
  rests {mk} {u} {rn = rn} {to' = to'} {wr = wr} {lr = lr} lu ok lc so gr (offer2 {c = c} {n = n} {h = h} {fd = fd} cm op) m x sp =
      rest_offered lc so gr m (λ s. acts_well start σ t cs mk pl ca u c n 0 rn offer.Read h fd to' wr lr ln fn lc so gr ok refl cm (λ z. clash op z) s) x sp
  rests {u = u} lu ok lc so gr (offer3 cm op) m x sp = rest_offered lc so gr m (λ s. λ ok. (fits_silent _ _ refl refl, at_rest lc so gr (takes cm op (prefix_none 532 533 (data_of u) (data_length u lu))))) x sp
  rests {u = u} lu ok lc so gr (offer4 cm op) m x sp = rest_offered lc so gr m (λ s. λ ok. (fits_silent _ _ refl refl, at_rest lc so gr (takes cm op (prefix_none 532 533 (data_of u) (data_length u lu))))) x sp
  rests lu ok lc so gr (takes cm op tk) m x sp = rest_taking lu lc so gr cm op tk m x sp
  rests {mk} {u} {rn = rn} {to' = to'} {wr = wr} {lr = lr} lu ok lc so gr (offer6 {c = c} {n = n} {f = f} {h = h} {fd = fd} cm op ed) m x sp =
      rest_offered lc so gr m (λ s. acts_well start σ t cs mk pl ca u c n f rn offer.Act h fd to' wr lr ln fn lc so gr ok refl cm (λ z. ed) s) x sp
