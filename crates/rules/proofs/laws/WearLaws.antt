-- document 02, 05: the sums that a manager keeps are those of the erases done, or the limit.
use Rattle.std.specs.Prelude.{ℕ, ◌*◌, ◌≤◌, ◌<◌, Some, None, ◌≡◌, length, get_or}
use Rattle.std.specs.declared.option.Option.{Option}
use mathlib.Core.List.{List, [], ◌∷◌, ◌++◌}
use Rattle.std.proofs.Math.Path.{refl, sym, ap}
use Rattle.std.proofs.Common.{◌∙◌, subst, eq-eqb, zero-add, arith, get_or-set_same, get_or-set_other}
use Rattle.std.proofs.Math.Nat.{div-mul_cancel}
use Rattle.std.proofs.Math.ListN.{length-set}
use Rattle.arith.specs.Cases.{by_eqb}
use Rattle.memory.specs.declared.JobType.TheVariants.{Erase}
use Rattle.memory.specs.declared.LogicalAddress.{LogicalAddress}
use Rattle.memory.specs.declared.Task.{Task}
use Rattle.plan.specs.Questions.{area_of, sub_area_of}
use Rattle.plan.specs.declared.records.Plan.{Plan}
use Rattle.segment.specs.Mapping.{mapped}
use Rattle.segment.specs.declared.FoundByte.{FoundByte}
use Rattle.segment.specs.declared.Segment.{Segment}
use Rattle.segment.specs.laws.Found.{index_within, located_mapped}
use Rattle.segment.specs.laws.SegmentLaws.{Good}
use Rattle.wear.specs.Wear.{sectors_in, worn_to, charge_of}
use Rattle.wear.proofs.laws.WearLaws.{worn_more}
use Rattle.rules.specs.Wear.{sectors_of, worn_in, stuck_wear, wear_after, worn_at, wear_info_at, wear_info_of}

module _ (p : Plan) where
  pub length_wear : (es : List Segment) (w : List ℕ) → length (wear_after p es w) ≡ length w
  unfolding wear_after
  length_wear [] w = refl
  length_wear (s ∷ es) w = rw length-set (length_wear es w)

  -- erases put before others: the sums go with them
  module _ (old : List Segment) (w : List ℕ) (long : length w ≡ 32) (was : (i : ℕ) → i < 32 → worn_at w i ≡ stuck_wear p old i) where
    pub wear_sums : (es : List Segment) (i : ℕ) → i < 32 → worn_at (wear_after p es w) i ≡ stuck_wear p (es ++ old) i
    unfolding wear_after worn_in
    wear_sums [] i h = was i h
    wear_sums (s ∷ es) i h =
        let before = wear_after p es w in
        by_eqb s.sub_area i
        (λ q e.
        subst (λ j. worn_at (wear_after p (s ∷ es) w) j ≡ stuck_wear p ((s ∷ es) ++ old) j) e
        (rw (eq-eqb s.sub_area s.sub_area refl)
        (get_or-set_same before s.sub_area _ 0 (omega (arith, length_wear es w))
        ∙ ap (λ x. worn_to x (sectors_of p s)) (wear_sums es s.sub_area (omega arith))
        ∙ worn_more (worn_in p s.sub_area (es ++ old)) (sectors_of p s))))
        (λ q e. rw (q, zero-add) (get_or-set_other before s.sub_area i _ 0 (λ r. e (sym r)) ∙ wear_sums es i h))

  -- the query looks at the sums of sub-areas that a plan has room for, and at no others
  pub wear_info_same : p.sub_area_count ≤ 32 → (s t : ℕ → ℕ) → ((i : ℕ) → i < 32 → s i ≡ t i) → (a : ℕ) (address : LogicalAddress) →
      wear_info_of p s a address ≡ wear_info_of p t a address
  unfolding wear_info_of
  wear_info_same few s t same a address = go (mapped p a address) refl
    where
      go : (f : Option FoundByte) → f ≡ mapped p a address → wear_info_at p s f ≡ wear_info_at p t f
      go None e = refl
      go (Some byte) e =
          ap (λ x. record { sum = x; charge = charge_of x (get_or p.endurance byte.sub_area 0) (sub_area_of p.sub_areas byte.sub_area).sector_count })
          (same byte.sub_area (index_within p.sub_areas a p.sub_area_count (area_of p.areas a).start.0 address.0 (Some byte) (e ∙ sym (located_mapped p a address.0)) few))

  -- "the number of sectors in its piece": a segment of an erase is that many whole sectors
  pub sectors_whole : {a : ℕ} {t : Task} {s : Segment} {left : ℕ} → t.kind ≡ Erase → Good p a t s left →
      s.length ≡ sectors_of p s * (sub_area_of p.sub_areas s.sub_area).erase.unit
  unfolding sectors_in
  sectors_whole {s = s} e g =
      rw g.sub_area_is (sym (div-mul_cancel _ (rw e at g.length_of_unit)))
