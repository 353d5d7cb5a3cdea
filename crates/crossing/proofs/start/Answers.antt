-- `crossing::start` meets its contract.
use mathlib.Core.Path.{ap, ◌∙◌}
use mathlib.Core.List.{List, ◌++◌}
use Prim.Native.Nat.{ℕ}
use lib.ListN.{take, drop}
use Rattle.drive.specs.declared.Drive.{Drive}
use Rattle.drive.specs.Calls.{start_of}
use Rattle.calls.specs.Gives.{notes_of}
use Rattle.crossing.specs.Crossing.{crossed, note_words}
use Rattle.crossing.proofs.Crossed.{written, shows, both_packed}
use Rattle.crossing.proofs.start.Goals as goal

pub returns : goal.returns
returns c =
    let w = c.args.w.now in
    let u = c.args.buf.now in
    let s = c.start-step.result in
    let k = notes_of s.drive in
    let v = c.put_table.ensures ∙ ap (λ (v : List ℕ). take 23 v ++ note_words k) c.put_state.ensures ∙ both_packed (drop 23 w) s.drive.state k ∙ written s.answer w _ c.if-is_refused.ensures in
    shows w _ _ (start_of c.controller_at.result.0 u) s _ c.start-step.ensures c.from-reply.ensures v ∙ ap (λ (d : Drive). crossed w (start_of d u)) c.controller_at.ensures
