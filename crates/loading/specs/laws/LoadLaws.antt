-- How the loader comes to its number, question by question.
use Rattle.std.specs.Prelude.{ℕ, ◌+◌, ◌*◌, ◌<◌, ◌≡◌, Bool, true, false, List, length}
use Rattle.std.proofs.Common.{◌∙◌, arith}
use borrow.Author.Tests.{eq-eqb, ne_eqb}
use Rattle.arith.specs.Bounded.{every}
use Rattle.arith.specs.FirstNo.{first_no, ask, or_else, or_else_first}
use Rattle.plan.specs.Records.{records_end, record_layout, wear_at, plan_of, empty_plan}
use Rattle.plan.specs.Questions.{whole_records, counts_fit, record_questions, plan_questions, wear_record_fits, load_number, loaded_plan}
use Rattle.plan.specs.declared.records.Plan.{Plan}
use Rattle.plan.specs.declared.scan.RecordLayout.{RecordLayout}

module _ (l : List ℕ) (k : RecordLayout) (e : k ≡ record_layout l) where
  pub not_whole : (k.end ≡ length l → ⊥) → load_number l ≡ 1
  unfolding load_number first_no or_else whole_records record_layout
  not_whole h = rw (ne_eqb (records_end l) (length l) (rw e at h))

  -- the plan that was read has the counts of the layout
  pub read_counts : (p : Plan) → p ≡ plan_of l → counts_fit k.device_count k.area_count k.sub_area_count ≡ true →
      counts_fit p.device_count p.area_count p.sub_area_count ≡ true
  unfolding plan_of record_layout
  read_counts p q h = rw q (rw e at h)

  module _ (w : k.end ≡ length l) where
    is_whole : whole_records l ≡ true
    unfolding whole_records record_layout
    is_whole = eq-eqb _ _ (rw e at w)

    pub too_many : counts_fit k.device_count k.area_count k.sub_area_count ≡ false → load_number l ≡ 2
    unfolding load_number first_no or_else plan_questions plan_of record_layout
    too_many h = rw (is_whole, rw e at h)

    -- questions 3 to 8, asked of the plan that was read, and 20, asked of the bytes, give the number
    module _ (h : counts_fit k.device_count k.area_count k.sub_area_count ≡ true) (p : Plan) (q : p ≡ plan_of l) where
      few_enough :
          load_number l
          ≡ or_else (first_no 3 (record_questions p))
          (ask 20 (every (wear_record_fits (λ j. wear_at l (k.wear_start + j * 7)) k.sub_area_count) k.wear_count))
      unfolding load_number first_no plan_questions plan_of record_layout
      few_enough = rw (q, is_whole, rw e at h, e)

      pub by_record : (n : ℕ) → first_no 3 (record_questions p) ≡ n → 0 < n → load_number l ≡ n
      by_record n f g = few_enough ∙ or_else_first _ _ (λ z. omega arith) ∙ f

      pub by_wear : first_no 3 (record_questions p) ≡ 0 → (b : Bool) →
          b ≡ every (wear_record_fits (λ j. wear_at l (k.wear_start + j * 7)) k.sub_area_count) k.wear_count → load_number l ≡ ask 20 b
      unfolding or_else
      by_wear f b g = few_enough ∙ rw (f, ← g)

-- what a load keeps
pub kept : (l : List ℕ) → load_number l ≡ 0 → plan_of l ≡ loaded_plan l
unfolding loaded_plan
kept l e = rw (eq-eqb (load_number l) 0 e)

pub not_kept : (l : List ℕ) (n : ℕ) → load_number l ≡ n → 0 < n → empty_plan ≡ loaded_plan l
unfolding loaded_plan
not_kept l n e h = rw (ne_eqb (load_number l) 0 (omega arith))
