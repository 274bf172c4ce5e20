-- What every call of a mailbox keeps, and that the number of its answer tells it. Assumes nothing.
use Prim.{tt}
use Prim.Native.Nat.{ℕ, ◌<◌}
use native.Mathlib.Omega.{arith}
use mathlib.Core.Path.{◌≡◌, refl, sym, ap, subst, ◌∙◌}
use mathlib.Core.Bool.{Bool, true, false, false≢true}
use mathlib.Core.List.{List}
use lib.Dec.{ltb}
use lib.ListN.{length}
use borrow.Author.Tests.{ltb-true}
use Rattle.branches.proofs.Branches.{by_cond, and_left, and_right}
use Rattle.frame.specs.Frame.{data_of, is_end}
use Rattle.answers.specs.Answers.{Said, done, none, byte, frame, refused, part, cell, lines}
use Rattle.cells.specs.Cells.{Cells}
use Rattle.boundary.specs.Kept.{Tells, Kept}
use Rattle.boundary.proofs.Words.{done_told, none_told, refusal_told, lines_told, frame_told, cell_told, SmallNumbers, first_small}
use Rattle.boundary.proofs.Stored.{put_below}
use Rattle.mailstate.specs.declared.State.{State}
use Rattle.mailstate.specs.Sizes.{sizes_obeyed, fits}
use Rattle.mailloop.specs.Messages.{cell_of, keeps, frame_cells}
use Rattle.mailblock.specs.States.{Ranged}
use Rattle.mailblock.proofs.Laws.{ranged_by, start_ranged, obeyed_ranged}
use Rattle.mailbox.specs.BusSide as bus-side
use Rattle.mailbox.specs.Calls.{OnState, reset, loop_frame, bus_command, bus_byte, bus_fetch, bus_clear, bus_lines, Call, create, show, on}
use Rattle.mailbox.specs.Calls.{World, Did, checks_on, checks, tobus_after, toloop_after, not_refused, refused_or, step}
use Rattle.maillaws.specs.Mailboxes.{ByteCall}
use Rattle.maillaws.specs.Replies.{can_answer, is_narrow}
use Rattle.maillaws.specs.StateFits.{Fits}
use Rattle.maillaws.proofs.Refusal.{by_refusal}
use Rattle.maillaws.proofs.Replied.{answers_so, narrow_answers, refused_exactly}
use Rattle.maillaws.proofs.FitParts.{Parts, parts}
use Rattle.maillaws.proofs.Fitted.{keeps_stores, keeps_fit, create_makes_fit}
use Rattle.cmailbox.specs.Mailbox.{mailboxes}

-- ---- numbers fit their places

-- every number of a state that fits is small
fits_ranged : (w : World) → Fits w → Ranged w.state
fits_ranged w e =
    let s = w.state in
    let p : Parts w.tobus w.toloop s = parts w.tobus w.toloop s e in
    ranged_by s (omega arith) (omega arith) (omega arith) (omega arith) (omega arith) (omega arith)
    (omega arith) (omega arith) (omega arith) (omega arith) (omega arith) (omega arith) (omega arith) (omega arith) (omega arith)

made_ranged : (a : ℕ) (w : World) → sizes_obeyed a (length w.tobus) (length w.toloop) ≡ true → Ranged (step (create a) w).world.state
unfolding step refused_or checks not_refused
made_ranged a w e = rw e (obeyed_ranged a (length w.tobus) (length w.toloop) e)

done_ranged : (a : ℕ) (w : World) → (step (create a) w).said ≡ done → Ranged (step (create a) w).world.state
done_ranged a w e = fits_ranged (step (create a) w).world (create_makes_fit (create a) w tt a refl e)

-- a state that does not fit stays, unless create makes another
misfit_ranged : (c : Call) (w : World) → fits w.state (length w.tobus) (length w.toloop) ≡ false → Ranged w.state → Ranged (step c w).world.state
unfolding step refused_or checks not_refused
misfit_ranged (create a) w e h = pick (sizes_obeyed a (length w.tobus) (length w.toloop)) refl
  where
    pick : (t : Bool) → sizes_obeyed a (length w.tobus) (length w.toloop) ≡ t → Ranged (step (create a) w).world.state
    pick true q = made_ranged a w q
    pick false q = rw q h
misfit_ranged (show side) w e h = h
misfit_ranged (on c) w e h = rw e h

ranged_kept : (c : Call) (w : World) → Ranged w.state → Ranged (step c w).world.state
ranged_kept c w h = pick (fits w.state (length w.tobus) (length w.toloop)) refl
  where
    pick : (t : Bool) → fits w.state (length w.tobus) (length w.toloop) ≡ t → Ranged (step c w).world.state
    pick true e = fits_ranged (step c w).world (keeps_fit c w tt e)
    pick false e = misfit_ranged c w e h

-- ---- the stores keep cells

cell_small : (b : ℕ) (t : Bool) → b < 256 → bus-side.cell_with b t < 65536
cell_small b t h = by_cond (λ (n : ℕ). n < 65536) t _ _ (λ _. omega arith) (λ _. omega arith)

tobus_cells : (c : OnState) (w : World) → Cells w.tobus → Cells (tobus_after c w)
unfolding tobus_after frame_cells
tobus_cells (loop_frame f) w k =
    by_cond Cells (keeps w.state f) _ _
    (λ _. put_below 65536 (cell_of f) (cell_small (data_of f) (is_end f) (omega arith)) w.tobus w.state.tobus.ring k)
    (λ _. k)
tobus_cells reset w k = k
tobus_cells (bus_command c) w k = k
tobus_cells (bus_byte b mark) w k = k
tobus_cells bus_fetch w k = k
tobus_cells bus_clear w k = k
tobus_cells bus_lines w k = k

toloop_cells : (c : OnState) (w : World) → ByteCall (on c) → Cells w.toloop → Cells (toloop_after c w)
unfolding toloop_after bus-side.bus_cells
toloop_cells (bus_byte b mark) w h k =
    by_cond Cells w.state.bus.role.listener _ _
    (λ _. put_below 65536 (bus-side.cell_with b mark) (cell_small b mark h) w.toloop w.state.toloop.ring k)
    (λ _. k)
toloop_cells reset w h k = k
toloop_cells (loop_frame f) w h k = k
toloop_cells (bus_command c) w h k = k
toloop_cells bus_fetch w h k = k
toloop_cells bus_clear w h k = k
toloop_cells bus_lines w h k = k

abbrev BothCells : World → Type 0
BothCells w = Cells w.tobus × Cells w.toloop

accepted_cells : (c : Call) (w : World) → ByteCall c → BothCells w → BothCells (not_refused c w).world
unfolding not_refused
accepted_cells (create a) w h k = k
accepted_cells (show side) w h k = k
accepted_cells (on c) w h k = (tobus_cells c w k.0, toloop_cells c w h k.1)

cells_kept : (c : Call) (w : World) → ByteCall c → BothCells w → BothCells (step c w).world
cells_kept c w h k = by_refusal (λ (d : Did). BothCells d.world) c w (λ _. accepted_cells c w h k) (λ _. k)

-- ---- the number of an answer tells it

-- every refusal is one of the table's numbers
small_on : (c : OnState) (s : State) → SmallNumbers (checks_on c s)
unfolding checks_on
small_on (loop_frame f) s = (omega arith, (omega arith, tt))
small_on (bus_command c) s = (omega arith, tt)
small_on (bus_byte b mark) s = (omega arith, tt)
small_on reset s = tt
small_on bus_fetch s = tt
small_on bus_clear s = tt
small_on bus_lines s = tt

small_numbers : (c : Call) (w : World) → SmallNumbers (checks c w)
unfolding checks
small_numbers (create a) w = (omega arith, tt)
small_numbers (show side) w = tt
small_numbers (on c) w = (omega arith, small_on c w.state)

-- an answer of few bits that is neither a line byte nor a part is told
tell : (a : Said) → is_narrow a ≡ true → ((n : ℕ) → a ≡ refused n → n < 65536) → ((b : ℕ) → a ≡ byte b → ⊥) → ((xs : List ℕ) → a ≡ part xs → ⊥) →
    Tells mailboxes a
tell done h r b p = done_told cell
tell none h r b p = none_told cell
tell (byte n) h r b p = absurd (b n refl)
tell (frame k d) h r b p =
    frame_told cell k d (omega (arith, ltb-true k 8 (and_left (ltb k 8) (ltb d 256) h))) (ltb-true d 256 (and_right (ltb k 8) (ltb d 256) h))
tell (refused n) h r b p = refusal_told cell n (r n refl)
tell (part xs) h r b p = absurd (p xs refl)
tell (cell n) h r b p = cell_told n (omega (arith, ltb-true n 512 h))
tell (lines n) h r b p = lines_told cell n (omega (arith, ltb-true n 512 h))

-- no call on a state answers a line byte or a part
never_byte : (c : OnState) (b : ℕ) → can_answer (on c) (byte b) ≡ false
never_byte reset b = refl
never_byte (loop_frame f) b = refl
never_byte (bus_command c) b = refl
never_byte (bus_byte x mark) b = refl
never_byte bus_fetch b = refl
never_byte bus_clear b = refl
never_byte bus_lines b = refl

never_part : (c : OnState) (xs : List ℕ) → can_answer (on c) (part xs) ≡ false
never_part reset xs = refl
never_part (loop_frame f) xs = refl
never_part (bus_command c) xs = refl
never_part (bus_byte x mark) xs = refl
never_part bus_fetch xs = refl
never_part bus_clear xs = refl
never_part bus_lines xs = refl

told : (c : Call) (w : World) → ((b : ℕ) → can_answer c (byte b) ≡ false) → ((xs : List ℕ) → can_answer c (part xs) ≡ false) → Tells mailboxes (step c w).said
told c w b p =
    tell (step c w).said (narrow_answers c w tt)
    (λ n e. subst (λ (k : ℕ). k < 65536) ((refused_exactly c w tt).when n e) (first_small (checks c w) (small_numbers c w)))
    (λ n e. absurd (false≢true (sym (b n) ∙ ap (can_answer c) (sym e) ∙ answers_so c w tt)))
    (λ xs e. absurd (false≢true (sym (p xs) ∙ ap (can_answer c) (sym e) ∙ answers_so c w tt)))

-- ---- all of it

pub kept : Kept mailboxes
kept =
    record {
      none_ranged = start_ranged 0 0 0 (omega arith) (omega arith) (omega arith);
      made_ranged = done_ranged;
      ranged = λ c w h. ranged_kept c w h.state;
      fine = λ h t. tt;
      fine_kept = λ c w b h. tt;
      stored = λ c h b t.
          let w = mailboxes.world h in
          let k = cells_kept c w b (t.first, t.second) in
          record { state = ranged_kept c w t.state; first = k.0; second = k.1 };
      told_create = λ a w. told (create a) w (λ b. refl) (λ xs. refl);
      told_on = λ c h t. told (on c) (mailboxes.world h) (never_byte c) (never_part c);
      room_on = λ c h t. omega arith;
      keeps_fit = λ c w h e. keeps_fit c w tt e;
      makes_fit = λ a w e. create_makes_fit (create a) w tt a refl e;
      sizes = λ c w. let s = keeps_stores c w tt in record { first = s.tobus; second = s.toloop };
    }
