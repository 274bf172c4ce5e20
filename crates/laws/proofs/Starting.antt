-- What create and reset give. Assumes nothing.
use Prim.Native.Nat.{ℕ}
use mathlib.Core.Path.{◌≡◌, refl, sym, ap, subst, ◌∙◌}
use mathlib.Core.Bool.{Bool, true, false, and-false, false≢true}
use mathlib.Core.List.{List, [], ◌∷◌, cons≢nil}
use lib.ListN.{length}
use Rattle.machine.specs.Machine.{Obeys, course, finally}
use Rattle.registers.specs.Table as registers-table
use Rattle.store.proofs.Laws.{fit_cap}
use Rattle.state.specs.declared.State.{State}
use Rattle.answers.specs.Answers.{said, refused}
use Rattle.state.specs.Sizes.{sizes_obeyed, start_state, fits}
use Rattle.state.specs.Conditions.{conditions, enabled_by, asking, settled}
use Rattle.state.proofs.Fits.{tests}
use Rattle.bridge.specs.Calls.{reset, write, line_byte, line_break, key, ask_line_byte, take_line_byte, loop_frame, Call, create, show, on}
use Rattle.bridge.specs.Calls.{is, World, world, Did, outcome, settled_by, rx_after, tx_after, not_refused, step}
use Rattle.laws.specs.Bridges.{bridge}
use Rattle.laws.specs.Observers.{taken, restarts}
use Rattle.laws.specs.Starting.{Started, StartsSo, margin_of, MarginRecorded, ResetGivesStart, RefusedCreateFitsNothing}
use Rattle.laws.proofs.Refusing.{by_refusal}

-- a start begins no request, since no condition is enabled
started : (s : State) (m a b : ℕ) → settled s (start_state m a b) ≡ start_state m a b
unfolding settled asking enabled_by conditions start_state registers-table.start_registers registers-table.start_of registers-table.row_in registers-table.table
started s m a b = refl

abbrev pub start_world : World → ℕ → World
start_world w m = world (start_state m (length w.rx) (length w.tx)) w.rx w.tx

-- what a create or reset that is done leaves
begun : (c : Call) (w : World) → restarts c (not_refused c w).said ≡ true → (not_refused c w).world ≡ start_world w (margin_of c w)
unfolding not_refused outcome settled_by rx_after tx_after restarts said
begun (create m) w e = refl
begun (show side) w e = absurd (false≢true e)
begun (on reset) w e = λ i. world (started w.state w.state.margin (length w.rx) (length w.tx) i) w.rx w.tx
begun (on (write n v)) w e = absurd (false≢true e)
begun (on (line_byte b)) w e = absurd (false≢true e)
begun (on line_break) w e = absurd (false≢true e)
begun (on key) w e = absurd (false≢true e)
begun (on ask_line_byte) w e = absurd (false≢true e)
begun (on (take_line_byte b)) w e = absurd (false≢true e)
begun (on (loop_frame f)) w e = absurd (false≢true e)

-- a refused call is none of these
refused_not : (c : Call) (n : ℕ) → restarts c (refused n) ≡ true → ⊥
unfolding restarts
refused_not (create m) n e = false≢true e
refused_not (show side) n e = false≢true e
refused_not (on c) n e = false≢true (sym (and-false (is reset c)) ∙ e)

pub restarted : (c : Call) (w : World) → restarts c (step c w).said ≡ true → (step c w).world ≡ start_world w (margin_of c w)
restarted c w =
    by_refusal (λ (d : Did). restarts c d.said ≡ true → d.world ≡ start_world w (margin_of c w)) c w (λ _ e. begun c w e)
    (λ _ e. absurd (refused_not c _ e))

pub starts_so : Obeys (bridge step) StartsSo
starts_so c w _ e = subst Started (sym (restarted c w e)) start_right
  where
    start_right : Started (start_world w (margin_of c w))
    start_right =
        unfold start_state registers-table.start_registers registers-table.start_of registers-table.row_in registers-table.table in
        record { rx = refl; tx = refl; registers = refl; role = refl; remote = refl; held = refl; line = refl; seen = refl; request = refl; counts = refl }

pub margin_recorded : Obeys (bridge step) MarginRecorded
margin_recorded c w _ e = ap (λ (v : World). v.state.margin) (restarted c w e) ∙ (unfold start_state in refl)

-- a create right after a reset
create_again : (w : World) → taken (step (on reset) w).said ≡ true →
    (m : ℕ) → m ≡ (step (on reset) w).world.state.margin → taken (step (create m) (step (on reset) w).world).said ≡ true →
    (step (create m) (step (on reset) w).world).world.state ≡ (step (on reset) w).world.state
create_again w t m q h =
    ap (λ (v : World). v.state) (restarted (create m) (step (on reset) w).world (unfold restarts in h))
    ∙ ap (λ (k : ℕ). start_state k (length (step (on reset) w).world.rx) (length (step (on reset) w).world.tx)) q
    ∙ subst (λ (v : World). start_state v.state.margin (length v.rx) (length v.tx) ≡ v.state)
    (sym (restarted (on reset) w (unfold restarts in t))) (unfold start_state in refl)

pub reset_gives_start : Obeys (bridge step) ResetGivesStart
unfolding course finally
reset_gives_start c cs d w _ _ _ = go cs
  where
    again : (c : Call) → c ≡ on reset → taken (step c w).said ≡ true → (m : ℕ) → m ≡ (step c w).world.state.margin →
        taken (step (create m) (step c w).world).said ≡ true → (step (create m) (step c w).world).world.state ≡ (step c w).world.state
    again c q =
        subst
        (λ (x : Call). taken (step x w).said ≡ true → (m : ℕ) → m ≡ (step x w).world.state.margin →
        taken (step (create m) (step x w).world).said ≡ true → (step (create m) (step x w).world).world.state ≡ (step x w).world.state)
        (sym q) (create_again w)

    go : (cs : List Call) → c ≡ on reset → taken (step c w).said ≡ true → course (bridge step) cs (step c w).world ≡ [] →
        d ≡ create (step c w).world.state.margin → taken (step d (finally (bridge step) cs (step c w).world)).said ≡ true →
        (step d (finally (bridge step) cs (step c w).world)).world.state ≡ (step c w).world.state
    go [] q t e p h =
        subst (λ (x : Call). taken (step x (step c w).world).said ≡ true → (step x (step c w).world).world.state ≡ (step c w).world.state) (sym p)
        (again c q t _ refl) h
    go (x ∷ xs) q t e p h = absurd (cons≢nil e)

pub refused_create_fits_nothing : RefusedCreateFitsNothing
refused_create_fits_nothing m a b e x y = go (fits (start_state m a b) x y) refl
  where
    go : (t : Bool) → fits (start_state m a b) x y ≡ t → t ≡ false
    go false h = refl
    go true h = absurd (false≢true (sym e ∙ obeyed))
      where
        obeyed : sizes_obeyed m a b ≡ true
        obeyed = unfold start_state in let t = tests (start_state m a b) x y h in (λ i. sizes_obeyed m (fit_cap x _ t.rx_ring i) (fit_cap y _ t.tx_ring i)) ∙ t.sizes
