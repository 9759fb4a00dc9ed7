-- What the number of loading says.
use Rattle.std.specs.Prelude.{ℕ, suc, ◌+◌, ◌-◌, ◌≤◌, ◌<◌, ◌≡◌, Bool, true, false, List, [], ◌∷◌, ◌↔◌, ◌⊎◌, ◌≢◌, eqb, length, get_or}
use Rattle.std.proofs.Math.Path.{refl}
use Rattle.std.proofs.Common.{sym, ap, ◌∙◌, true≢false, inl, inr, ⊎_elim, ne_eqb, arith, add-one}
use Rattle.std.proofs.Math.ListN.{get_or-eq_default}
use Rattle.arith.specs.Bounded.{rises}
use Rattle.arith.specs.Plain.{plain, and_plain}
use Rattle.arith.specs.Cases.{pick, by_ltb, by_eqb, by_bool}
use Rattle.arith.specs.FirstNo.{first_no, ask, or_else, none_elim, none_more, first_elim, first_range, or_else_none, ask_none}
use Rattle.arith.specs.Tables.{table, table_at, length_table}
use Rattle.plan.specs.Records.{plan_of, sub_area_count_of, wear_count_of, wear_of, endurance_by}
use Rattle.plan.specs.Questions.{
  whole_records,
  counts_fit,
  device_due,
  device_joins,
  devices_join,
  windows_apart,
  windows_fit,
  sizes_fit,
  inside_device,
  is_placed,
  all_placed,
  space_fits,
  spaces_fit,
  sub_areas_apart,
  record_questions,
  plan_questions,
  wear_fits,
  load_number,
}
use Rattle.plan.proofs.laws.QuestionLaws.{start_due, all_apart, granular}
use Rattle.plan.proofs.laws.WearLaws.{wear_formed, wear_most, endurance_named, endurance_none}
use Rattle.plan.specs.WellFormed.{WellFormed, WearFormed}

-- questions 1 to 8
abbrev eight : List ℕ → List Bool
eight l = whole_records l ∷ plan_questions (plan_of l)

-- no "no" of theirs: whole records, and the plain facts of the plan
eight_none : (l : List ℕ) → (first_no 1 (eight l) ≡ 0) ↔ ((whole_records l ≡ true) × WellFormed (plan_of l))
unfolding plan_questions record_questions counts_fit devices_join device_joins device_due windows_fit windows_apart sizes_fit all_placed is_placed inside_device spaces_fit space_fits sub_areas_apart
eight_none l = (facts, λ h. answers h.0 h.1)
  where
    -- what the tests of each question say, in their order
    facts : first_no 1 (eight l) ≡ 0 → (whole_records l ≡ true) × WellFormed (plan_of l)
    facts e =
        let answer = none_elim 1 _ (omega arith) e in
        let counts = simp plain at (answer 1 (omega arith)) in
        let devices = simp plain at (answer 2 (omega arith)) in
        let windows = simp and_plain at (answer 3 (omega arith)) in
        let sizes = simp (plain, granular) at (answer 4 (omega arith)) in
        let places = simp plain at (answer 5 (omega arith)) in
        let spaces = simp plain at (answer 6 (omega arith)) in (
          answer 0 (omega arith),
          record {
            device_some = counts.0.0;
            device_most = counts.0.1;
            area_some = counts.1.0.0;
            area_most = counts.1.0.1;
            sub_area_some = counts.1.1.0;
            sub_area_most = counts.1.1.1;
            first_start = (devices.0 0 counts.0.0).0;
            next_start = λ i h. rw add-one (devices.0 (suc i) (omega arith)).0;
            length_some = λ i h. (devices.0 i h).1.0;
            poll_limit_some = λ i h. (devices.0 i h).1.1;
            length_sum_lem = devices.1;
            window_end_lem = simp plain at windows.0;
            window_apart = (all_apart _ _ _).0 windows.1;
            erase_granular = λ i h. (sizes i h).0;
            write_granular = λ i h. (sizes i h).1.0;
            read_granular = λ i h. (sizes i h).1.1.0;
            sector_some = λ i h. (sizes i h).1.1.1.0;
            page_in_sector = λ i h. (sizes i h).1.1.1.1.0;
            read_in_sector = λ i h. (sizes i h).1.1.1.1.1;
            area_known = λ i h. (places i h).0;
            device_known = λ i h. (places i h).1.0;
            start_aligned = λ i h. (places i h).1.1.0;
            after_device_start = λ i h. (places i h).1.1.1.0;
            before_device_end = λ i h. (places i h).1.1.1.1;
            never_falling_lem = rises _ _ spaces.0;
            has_sub_area_lem = λ a h. (spaces.1 a h).0;
            space_end = λ a h. (spaces.1 a h).1;
            bytes_apart = (all_apart _ _ _).0 (answer 7 (omega arith));
          },
        )

    -- each question in its turn
    answers : (whole_records l ≡ true) → WellFormed (plan_of l) → first_no 1 (eight l) ≡ 0
    answers e w =
        none_more 1 _ _ e
        (none_more 2 _ _ (simp plain ((w.device_some, w.device_most), ((w.area_some, w.area_most), (w.sub_area_some, w.sub_area_most))))
        (none_more 3 _ _
        (simp plain
        (λ i h. (start_due _ _ w.first_start w.next_start i h, (w.length_some i h, w.poll_limit_some i h)), w.length_sum_lem))
        (none_more 4 _ _ (simp and_plain (simp plain w.window_end_lem, (all_apart _ _ _).1 w.window_apart))
        (none_more 5 _ _
        (simp (plain, granular)
        (λ i h. (w.erase_granular i h, (w.write_granular i h, (w.read_granular i h, (w.sector_some i h, (w.page_in_sector i h, w.read_in_sector i h)))))))
        (none_more 6 _ _
        (simp plain
        (λ i h. (w.area_known i h, (w.device_known i h, (w.start_aligned i h, (w.after_device_start i h, w.before_device_end i h))))))
        (none_more 7 _ _
        (simp plain (λ i h. w.never_falling_lem i (i + 1) (omega arith) (omega arith), λ a h. (w.has_sub_area_lem a h, w.space_end a h)))
        (none_more 8 _ [] ((all_apart _ _ _).1 w.bytes_apart) (unfold first_no in refl))))))))

-- "Acceptance is 0": number 0 exactly for whole records of which the plain facts hold
pub accepted : (l : List ℕ) → (load_number l ≡ 0) ↔ ((whole_records l ≡ true) × WellFormed (plan_of l) × WearFormed (wear_of l) (sub_area_count_of l) (wear_count_of l))
unfolding load_number
accepted l = (
  λ e.
      let both = (or_else_none _ _).0 e in
      let first = (eight_none l).0 both.0 in
      (first.0, first.1, (wear_formed _ _ _).0 ((ask_none 20 _ (omega arith)).0 both.1)),
  λ h. (or_else_none _ _).1 ((eight_none l).1 (h.0, h.1), (ask_none 20 _ (omega arith)).1 ((wear_formed _ _ _).1 h.2)),
)

-- document 02, 05: the endurance that an accepted plan keeps of a sub-area is that of the record that names it, or 0, which no record has
pub record EnduranceKept (l : List ℕ) : Type 0 where
  pub named : (i : ℕ) → i < wear_count_of l → get_or (plan_of l).endurance (wear_of l i).sub_area 0 ≡ (wear_of l i).endurance
  pub unnamed : (s : ℕ) → ((i : ℕ) → i < wear_count_of l → (wear_of l i).sub_area ≢ s) → get_or (plan_of l).endurance s 0 ≡ 0

pub endurance_kept : (l : List ℕ) → load_number l ≡ 0 → EnduranceKept l
unfolding plan_of
endurance_kept l e =
    let a = (accepted l).0 e in
    let wear = a.2 in
    record {
      named = λ i h.
          table_at 32 (endurance_by (wear_of l) (wear_count_of l)) 0 32 _ 0 (omega (arith, wear.known i h, a.1.sub_area_most)) (omega arith)
          ∙ endurance_named (wear_of l) (wear_count_of l) wear.once i h;
      unnamed = λ s h.
          by_ltb s 32
          (λ _ k. table_at 32 (endurance_by (wear_of l) (wear_count_of l)) 0 32 s 0 k (omega arith) ∙ endurance_none (wear_of l) (wear_count_of l) s h)
          (λ _ k.
          get_or-eq_default (table 32 (endurance_by (wear_of l) (wear_count_of l)) 0 32) 0
          (omega (arith, length_table 32 (endurance_by (wear_of l) (wear_count_of l)) 0 32)));
    }

-- the answer to question n; there is none from 9 to 19
unfoldable pub question : List ℕ → ℕ → Bool
question l n = pick (eqb n 20) (wear_fits l) (get_or (eight l) (n - 1) true)

module _ (l : List ℕ) where
  -- no question before 20 is the wear records'
  early : (i : ℕ) → i < 20 → question l i ≡ get_or (eight l) (i - 1) true
  unfolding question
  early i h = rw (ne_eqb i 20 (omega arith))

  last : question l 20 ≡ wear_fits l
  unfolding question
  last = refl

  -- questions without a "no" are answered "yes", and so is each behind the last
  all_yes : first_no 1 (eight l) ≡ 0 → (i : ℕ) → get_or (eight l) i true ≡ true
  all_yes e i =
      by_ltb i (length (eight l)) (λ _ h. none_elim 1 (eight l) (omega arith) e i h) (λ _ h. get_or-eq_default (eight l) true h)

  -- there are eight before it
  eight_range : first_no 1 (eight l) ≤ 8
  unfolding plan_questions record_questions
  eight_range = omega (arith, first_range 1 (eight l) (omega arith))

  -- "The first 'no' gives its number."
  pub refused : (n : ℕ) → load_number l ≡ n → 0 < n → ((i : ℕ) → 1 ≤ i → i < n → question l i ≡ true) × (question l n ≡ false)
  unfolding load_number or_else ask
  refused n e h =
      by_eqb (first_no 1 (eight l)) 0
      (λ q none. by_bool (wear_fits l) (λ f. absurd (omega (arith, rw (q, f) at e))) (λ f. by_wear (rw (q, f) at e) none f))
      (λ q _. by_eight (rw q at e))
    where
      by_eight : first_no 1 (eight l) ≡ n → ((i : ℕ) → 1 ≤ i → i < n → question l i ≡ true) × (question l n ≡ false)
      by_eight e =
          let first = first_elim 1 _ n e h in
          let most = eight_range in
          (λ i k m. early i (omega arith) ∙ first.1 (i - 1) (omega arith), early n (omega arith) ∙ first.2)

      by_wear : 20 ≡ n → first_no 1 (eight l) ≡ 0 → wear_fits l ≡ false → ((i : ℕ) → 1 ≤ i → i < n → question l i ≡ true) × (question l n ≡ false)
      by_wear e none f = (λ i k m. early i (omega arith) ∙ all_yes none (i - 1), ap (question l) (sym e) ∙ last ∙ f)

  -- there are nine questions
  pub number_range : (load_number l ≤ 8) ⊎ (load_number l ≡ 20)
  unfolding load_number or_else ask
  number_range =
      by_eqb (first_no 1 (eight l)) 0
      (λ q _. by_bool (wear_fits l) (λ f. rw (q, f) (inl (omega arith))) (λ f. rw (q, f) (inr refl)))
      (λ q _. rw q (inl eight_range))

  -- document 02, 05: an accepted plan has at most 32 wear records
  most_wear_lem : load_number l ≡ 0 → wear_count_of l ≤ 32
  unfolding plan_of
  most_wear_lem e =
      let a = (accepted l).0 e in
      omega (arith, wear_most (wear_of l) _ _ a.2, a.1.sub_area_most)

  -- and more of them, where questions 1 to 8 say "yes", are for 20 to refuse
  pub too_many_wear : 32 < wear_count_of l → ((i : ℕ) → 1 ≤ i → i ≤ 8 → question l i ≡ true) → load_number l ≡ 20
  too_many_wear more before = ⊎_elim (λ h. absurd (not_before h)) (λ e. e) number_range
    where
      not_before : load_number l ≤ 8 → ⊥
      not_before h =
          by_eqb (load_number l) 0
          (λ _ e. omega (arith, most_wear_lem e))
          (λ _ ne. true≢false (sym (before (load_number l) (omega arith) h) ∙ (refused (load_number l) refl (omega arith)).1))
