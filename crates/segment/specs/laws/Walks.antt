-- What proofs that walked a function's MIR by hand shared (docs/PROOFS.md, "The lookup over a lent list"); nothing cites it now. None of it is about sub-areas.
use Rattle.std.specs.Prelude.{◌≡◌, ℕ, zero, suc, ◌+◌, ◌-◌, ◌≤◌, ◌<◌, List, [], ◌∷◌}
use Rattle.std.proofs.Common.{sym, ◌∙◌, subst, add-zero, zero-add, arith}
use lib.WfN.{lt-wf_rel}
use seplogic.Ra.Ura.{Ura}
use mir.Syntax.{Ty, Local, local, ty_bool, Body as Code, loop, copy, place}
use mir.Val.{Val}
use base.Logic.{SProp, ent, ex, guard, via, ex_e, ex_i, guard_i, guard_e, id⊢}
use base.Fml.{Share, fat}
use prog.Wp.{Out, Env, spot_of, after_turn, Wp, Tables}
use types.Logic.{Logic}
use contract.Monad.{fact}
use types.Kit.{Item, Goal, Seq, Soaks, ‵, raw, ◌⊛◌, some, later, ⋆, mean, nth, ◌$◌, use1, move, split, pick, await}
use types.Run.{Finds, Opd, look, stop, from, load}
use sound.Loop.{loop_rule}
use Rattle.std.specs.Borrow.{RattleType}
use denote.Laws.{Is, shows}
use denote.Steps.{heard, peeks}

-- the type of local i, as the function has it
abbrev pub local_type : List Local → ℕ → Ty
local_type [] i = ty_bool
local_type (local t k ∷ ls) zero = t
local_type (local t k ∷ ls) (suc i) = local_type ls i

-- a local as a whole: where it lies, and its value, which stands at n in what is owned
module _ {M : Type 1} {𝓤 : Ura M} {𝓛 : Logic 𝓤} {K : Type 0} {Γ : List (Item 𝓤)} {E : Env 𝓤 𝓛.H} where
  open 𝓛 use {H}

  pub here : K → {i : ℕ} → Finds K 𝓛 Γ E (place i []) (spot_of 𝓤 H E i)
  here t = from t (stop t)

  pub value : K → (n : ℕ) {i : ℕ} {q : Share} {v : Val} → nth 𝓛 n Γ ≡ ‵ (fat q (spot_of 𝓤 H E i).0 (spot_of 𝓤 H E i).1 (spot_of 𝓤 H E i).2 v) → Opd K 𝓛 Γ E (copy (place i [])) v
  value t n e = load t (here t) (look t n e)

-- a loop over the numbers below n, of which a turn passes one or more: At i is what is owned at its head where i is the next, and P i is known there
module _ {M : Type 1} {𝓤 : Ura M} (𝓛 : Logic 𝓤) (𝓣 : Tables 𝓤 𝓛.H) (En : Env 𝓤 𝓛.H) (turn : Code) (Left : Out → SProp 𝓤) (n : ℕ) (P : ℕ → Type 0) (At : ℕ → List (Item 𝓤)) where
  open 𝓛 use {H}

  abbrev Own : ℕ → SProp 𝓤
  Own i = ⋆ 𝓛 (At i)

  abbrev Turn : SProp 𝓤 → SProp 𝓤
  Turn X = Wp 𝓤 H 𝓣.C 𝓣.Λ En turn (after_turn 𝓤 H X Left)

  -- where t numbers are left
  abbrev Facts : ℕ → ℕ → Type 0
  Facts t i = (i + t ≡ n) × P i

  abbrev Inv : ℕ → SProp 𝓤
  Inv t = ex 𝓤 (λ (i : ℕ). guard 𝓤 (Facts t i) (Own i))

  abbrev Below : ℕ → SProp 𝓤
  Below t = ex 𝓤 (λ (u : ℕ). guard 𝓤 (u < t) (Inv u))

  into : (t i : ℕ) → Facts t i → ent 𝓤 (Own i) (Inv t)
  into t i f = via 𝓤 (guard 𝓤 (Facts t i) (Own i)) (guard_i 𝓤 (Facts t i) (Own i) f) (ex_i 𝓤 (λ (j : ℕ). guard 𝓤 (Facts t j) (Own j)) i)

  below : (t u i : ℕ) → u < t → Facts u i → ent 𝓤 (Own i) (Below t)
  below t u i l f = via 𝓤 (Inv u) (into u i f) (via 𝓤 (guard 𝓤 (u < t) (Inv u)) (guard_i 𝓤 (u < t) (Inv u) l) (ex_i 𝓤 (λ (w : ℕ). guard 𝓤 (w < t) (Inv w)) u))

  module _ (more : (i : ℕ) (X : SProp 𝓤) → i < n → P i → ((j : ℕ) → i < j → j ≤ n → P j → ent 𝓤 (Own j) X) → ent 𝓤 (Own i) (Turn X)) (ends : (X : SProp 𝓤) → P n → ent 𝓤 (Own n) (Turn X)) where
    turn_at : (t i : ℕ) → Facts t i → ent 𝓤 (Own i) (Turn (Below t))
    turn_at zero i f = let e : n ≡ i = sym f.0 ∙ add-zero i in subst (λ (j : ℕ). ent 𝓤 (Own j) (Turn (Below zero))) e (ends (Below zero) (subst P (sym e) f.1))
    turn_at (suc t) i f =
        let h : i + suc t ≡ n = f.0 in
        more i (Below (suc t)) (omega (arith, h)) f.1 (λ j far few p. below (suc t) (n - j) j (omega (arith, h, far, few)) (omega (arith, few), p))

    turns : (t : ℕ) → ent 𝓤 (Inv t) (Turn (Below t))
    turns t = ex_e 𝓤 (λ (i : ℕ). guard 𝓤 (Facts t i) (Own i)) (λ i. guard_e 𝓤 (Facts t i) (Own i) (λ f. turn_at t i f))

    pub counted : P 0 → ent 𝓤 (Own 0) (Wp 𝓤 H 𝓣.C 𝓣.Λ En (loop turn) Left)
    counted p = via 𝓤 (Inv n) (into n 0 (zero-add n, p)) (loop_rule 𝓤 H 𝓛.laws 𝓣 ◌<◌ lt-wf_rel.wf En turn Left Inv turns n)

-- a call has answered with r, whose machine value is v. Its contract says φ r, and what it gives back besides is `back`
module _ {M : Type 1} {𝓤 : Ura M} {𝓛 : Logic 𝓤} {K : Type 0} {Γ : List (Item 𝓤)} {G : Goal 𝓤 𝓛.H} where
  pub answered : K → Soaks G → (R : RattleType) (back : Item 𝓤) (v : Val) {said : R.Denot → SProp 𝓤} {φ : R.Denot → Type 0} → ((r : R.Denot) → ent 𝓤 (said r) (fact 𝓤 (φ r)))
      → ((r : R.Denot) → φ r → Is R r (v ∷ []) → Seq K 𝓛 (‵ (R.own_val r (v ∷ [])) ∷ back ∷ Γ) G) → Seq K 𝓛 (raw (mean 𝓛 (later (some (λ (r : R.Denot). (back ⊛ ‵ (R.own_val r (v ∷ []))) ⊛ raw (said r))))) ∷ Γ) G
  answered t z R back v {said} {φ} of k =
      use1 𝓛 (later (some (λ (r : R.Denot). (back ⊛ ‵ (R.own_val r (v ∷ []))) ⊛ raw (said r)))) (id⊢ 𝓤 _) $ await t z $
      pick t (λ r. split t $ move t (1 ∷ []) $ use1 𝓛 (raw (fact 𝓤 (φ r))) (of r) $ heard t (φ r) (λ e. split t $ move t (1 ∷ []) $ peeks t R (Is R) (shows 𝓛 R) r (v ∷ []) (λ is. k r e is)))
