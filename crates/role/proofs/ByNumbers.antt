-- What a command does to the role and to the remote flags by the number in it, for any home address: the list of commands the other way round,
-- each part by the numbers that change it. Assumes nothing.
use Prim.Native.Nat.{ℕ, ◌+◌, ◌-◌, ◌%◌, ◌≤◌, ◌<◌}
use native.Mathlib.Omega.{arith}
use mathlib.Core.Path.{◌≡◌, refl, ap, ◌∙◌}
use mathlib.Core.Bool.{Bool, true, false, cond, ◌&&◌, ◌||◌, not, and-false, false≢true}
use mathlib.Core.List.{List, [], ◌∷◌}
use lib.Dec.{eqb, leb, ltb}
use borrow.Author.Tests.{eqb-true, eqb-false, eq-eqb, ne_eqb, leb-true, le-leb, lt-leb, ltb-true, lt-ltb}
use Rattle.branches.proofs.Branches.{by_cond, and_left, and_right, same_test}
use Rattle.role.specs.declared.Role.{Role}
use Rattle.role.specs.declared.remote.Remote.{Remote}
use Rattle.role.specs.declared.Order.{Order}
use Rattle.role.specs.Orders.{own_address, is_device_clear, listen_order, talk_order, other_order, order_of}
use Rattle.role.specs.Commands.{merely_addressed, changed_role, obeyed_role, after_command}
use Rattle.role.specs.Remote.{start_remote, obeyed_remote}

-- k+n with our address a, where n is not 31: k is 32 for the listen address and 64 for the talk address
abbrev pub calls : ℕ → ℕ → ℕ → Bool
calls k a d = eqb d (k + a) && not (eqb d (k + 31))

-- the role after the command d, where l and t say whether it is our listen address and our talk address
abbrev pub role_by : Bool → Bool → Role → ℕ → Role
role_by l t r d =
    record {
      address = cond (eqb d 154) 31 r.address;
      phase = cond ((l || ((leb 64 d && ltb d 96) && not t)) || eqb d 144) 0 (cond (t || leb 2 r.phase) 1 r.phase);
      listener = cond ((eqb d 63 || eqb d 144) || t) false (l || r.listener);
    }

-- and the remote flags m of a role r
abbrev pub remote_by : Bool → Role → Remote → ℕ → Remote
remote_by l r m d =
    record {
      enabled = cond (eqb d 147) false (eqb d 146 || m.enabled);
      remote = cond (eqb d 147 || (eqb d 1 && r.listener)) false (cond l (m.remote || m.enabled) m.remote);
    }

-- a listen or talk address by its number
shifted : (k d n a : ℕ) → d ≡ k + n → eqb d (k + a) ≡ eqb n a
shifted k d n a e =
    same_test (eqb d (k + a)) (eqb n a) (λ h. eq-eqb n a (omega (arith, eqb-true d (k + a) h))) (λ h. eq-eqb d (k + a) (omega (arith, eqb-true n a h)))

-- that n is not 31 is that our address is not
pub nobodys : (k a d : ℕ) → calls k a d ≡ (eqb d (k + a) && not (eqb a 31))
nobodys k a d = go (eqb d (k + a)) refl
  where
    go : (b : Bool) → eqb d (k + a) ≡ b → (b && not (eqb d (k + 31))) ≡ (b && not (eqb a 31))
    go true e = ap not (shifted k d a 31 (eqb-true d (k + a) e))
    go false e = refl

-- none of these numbers
abbrev AllNot : ℕ → List ℕ → Type 0
AllNot d [] = Unit {0}
AllNot d (k ∷ ks) = (d ≡ k → ⊥) × AllNot d ks

ruleset numbers = (eq-eqb, ne_eqb, lt-ltb, le-leb, lt-leb, and-false)

-- the order is the command d to one whose address is a
abbrev RightAt : ℕ → Role → Remote → ℕ → Order → Type 0
RightAt a r m d o = (changed_role (merely_addressed r) o ≡ role_by (calls 32 a d) (calls 64 a d) r d) × (obeyed_remote m o ≡ remote_by (calls 32 a d) r m d)

module _ (a : ℕ) (A : a ≤ 31) (r : Role) (m : Remote) (d : ℕ) where
  abbrev Right : Order → Type 0
  Right = RightAt a r m d

  abbrev NotOthers : Type 0
  NotOthers = AllNot d (144 ∷ 154 ∷ 146 ∷ 147 ∷ 1 ∷ [])

  listen_right : d - d % 32 ≡ 32 → Right (listen_order a (d % 32))
  unfolding changed_role merely_addressed obeyed_remote listen_order
  listen_right e =
      let lo : d < 64 = omega arith in
      let z : NotOthers = omega arith in
      let t : d ≡ 64 + a → ⊥ = omega arith in
      by_cond Right (eqb (d % 32) 31) _ _
      (λ n. let k : d ≡ 63 = omega (arith, eqb-true (d % 32) 31 n) in search numbers)
      (λ n. let q : d ≡ 63 → ⊥ = omega (arith, eqb-false (d % 32) 31 n) in
      by_cond Right (eqb (d % 32) a) _ _
      (λ h. let k : d ≡ 32 + a = omega (arith, eqb-true (d % 32) a h) in search numbers)
      (λ h. let k : d ≡ 32 + a → ⊥ = omega (arith, eqb-false (d % 32) a h) in search numbers))

  talk_right : d - d % 32 ≡ 64 → Right (talk_order a (d % 32))
  unfolding changed_role merely_addressed obeyed_remote talk_order
  talk_right e =
      let lo : 64 ≤ d = omega arith in
      let hi : d < 96 = omega arith in
      let z : NotOthers = omega arith in
      let l : AllNot d ((32 + a) ∷ 63 ∷ []) = omega arith in
      let k : d ≡ 64 + d % 32 = omega arith in
      let same : calls 64 a d ≡ (eqb (d % 32) a && not (eqb (d % 32) 31)) = λ i. shifted 64 d (d % 32) a k i && not (shifted 64 d (d % 32) 31 k i) in
      by_cond Right (eqb (d % 32) a && not (eqb (d % 32) 31)) _ _ (λ h. let t = same ∙ h in search (numbers, t)) (λ h. let t = same ∙ h in search (numbers, t))

  other_right : (d - d % 32 ≡ 32 → ⊥) → (d - d % 32 ≡ 64 → ⊥) → Right (other_order r.listener d)
  unfolding changed_role merely_addressed obeyed_remote other_order
  other_right p q =
      let n : AllNot d (63 ∷ (32 + a) ∷ (64 + a) ∷ []) = omega arith in
      let l = ne_eqb d (32 + a) n.1.0 in
      let t = ne_eqb d (64 + a) n.1.1.0 in
      by_cond Right (is_device_clear r.listener d) _ _ (λ e. let z = cleared (eqb d 20) refl e in search (numbers, u))
      (λ _. by_cond Right (eqb d 144) _ _ (λ e. rw (l, t, eqb-true d 144 e) (refl, refl))
      (λ n144. by_cond Right (eqb d 146) _ _ (λ e. rw (l, t, eqb-true d 146 e) (refl, refl))
      (λ n146. by_cond Right (eqb d 147) _ _ (λ e. rw (l, t, eqb-true d 147 e) (refl, refl))
      (λ n147. by_cond Right (eqb d 1 && r.listener) _ _ (λ e. rw (l, t, e, eqb-true d 1 (and_left _ _ e)) (refl, refl))
      (λ n1. by_cond Right (eqb d 154) _ _ (λ e. rw (l, t, eqb-true d 154 e) (refl, refl))
      (λ n154. search (numbers, u, n144, n146, n147, n1, n154)))))))
    where
      u : (leb 64 d && ltb d 96) ≡ false
      u =
          same_test (leb 64 d && ltb d 96) false
          (λ h. absurd (omega (arith, leb-true 64 d (and_left _ _ h), ltb-true d 96 (and_right (leb 64 d) _ h)))) (λ h. absurd (false≢true h))

      cleared : (t : Bool) → eqb d 20 ≡ t → (t || (eqb d 4 && r.listener)) ≡ true → NotOthers
      cleared true k e = omega (arith, eqb-true d 20 k)
      cleared false k e = omega (arith, eqb-true d 4 (and_left _ _ e))

-- every command, to a role in its range
module _ (home : ℕ) (H : home ≤ 31) (r : Role) (A : r.address ≤ 31) (d : ℕ) where
  abbrev own : ℕ
  own = own_address home r

  range : own ≤ 31
  unfolding own_address
  range = by_cond (λ n. n ≤ 31) (eqb r.address 31) home r.address (λ _. H) (λ _. A)

  right : (m : Remote) → RightAt own r m d (order_of home r d)
  unfolding order_of
  right m =
      by_cond (RightAt own r m d) (eqb (d - d % 32) 32) _ _ (λ e. listen_right own range r m d (eqb-true (d - d % 32) 32 e))
      (λ p. by_cond (RightAt own r m d) (eqb (d - d % 32) 64) _ _ (λ e. talk_right own range r m d (eqb-true (d - d % 32) 64 e))
      (λ q. other_right own range r m d (eqb-false (d - d % 32) 32 p) (eqb-false (d - d % 32) 64 q)))

  pub role_right : after_command home r d ≡ role_by (calls 32 (own_address home r) d) (calls 64 (own_address home r) d) r d
  unfolding obeyed_role
  role_right = (right start_remote).0

  pub remote_right : (m : Remote) → obeyed_remote m (order_of home r d) ≡ remote_by (calls 32 (own_address home r) d) r m d
  remote_right m = (right m).1
