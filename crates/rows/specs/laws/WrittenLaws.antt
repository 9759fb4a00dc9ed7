-- A text written part by part.
use Rattle.std.specs.Prelude.{ℕ, ◌+◌, ◌≤◌, List, [], ◌++◌, ◌≡◌, refl}
use Rattle.std.proofs.Common.{append_assoc, append-nil, ◌∙◌, arith, length-append}
use Rattle.texts.specs.Appended.{Appended}
use Rattle.texts.specs.Pages.{Prints}
use Rattle.texts.specs.declared.page.Page.{Page}
use Rattle.rows.specs.Written.{Written, PrintsPart}

-- nothing is written yet
pub written_none : (l : List ℕ) (at : ℕ) (whole : List ℕ) → Written l l at at whole whole
written_none l at whole = record { bytes = refl; ends = refl; long = refl }

-- the next part is written
pub written_more : {a b c : List ℕ} {i j k : ℕ} {whole rest left : List ℕ} (part : List ℕ) → left ≡ part ++ rest →
    Written a b i j whole left → Appended b c j k part → Written a c i k whole rest
written_more {rest = rest} {left = left} part e w p =
    let whole-left = rw e at w.bytes in
    let ends = rw (e, length-append part rest) at w.ends in
    record {
      bytes = rw (p.bytes, append_assoc) whole-left;
      ends = omega (arith, p.ends, ends);
      long = p.long ∙ w.long;
    }

-- one part behind the other
pub written_on : {a b c : List ℕ} {i j k : ℕ} {whole left rest : List ℕ} → Written a b i j whole left → Written b c j k left rest → Written a c i k whole rest
written_on w v = record { bytes = v.bytes ∙ w.bytes; ends = v.ends ∙ w.ends; long = v.long ∙ w.long }

-- nothing is left
pub written_all : {a b : List ℕ} {i j : ℕ} {whole rest : List ℕ} → rest ≡ [] → Written a b i j whole rest → Appended a b i j whole
written_all e w =
    let bytes = rw (e, append-nil) at w.bytes in
    let ends = rw e at w.ends in
    record { bytes = bytes; ends = omega (arith, ends); long = w.long }

-- the same on a page
pub part_none : (p : Page) (whole : List ℕ) → PrintsPart p p whole whole
part_none p whole = record { same_buffer = refl; written = written_none p.out.now p.end whole }

pub part_more : {p q r : Page} {whole rest left : List ℕ} {m : ℕ} (part : List ℕ) → left ≡ part ++ rest →
    PrintsPart p q whole left → Prints m q r part → PrintsPart p r whole rest
part_more part e w a = record { same_buffer = a.same_buffer ∙ w.same_buffer; written = written_more part e w.written a.appended }

pub part_on : {p q r : Page} {whole left rest : List ℕ} → PrintsPart p q whole left → PrintsPart q r left rest → PrintsPart p r whole rest
part_on w v = record { same_buffer = v.same_buffer ∙ w.same_buffer; written = written_on w.written v.written }

pub part_all : {p q : Page} {whole rest : List ℕ} {m : ℕ} → rest ≡ [] → PrintsPart p q whole rest → q.end ≤ p.end + m → Prints m p q whole
part_all e w few = record { same_buffer = w.same_buffer; appended = written_all e w.written; few = few }
