-- Texts written one after the other.
use Rattle.std.proofs.Common.{◌≡◌, ℕ, ◌+◌, List, [], ◌++◌, length, take, drop, subst, sym, refl, ap, ◌∙◌, ap₂, arith, take-append-drop}
use Rattle.std.proofs.lemmas.List.{append_assoc, length-append, length-take-le, drop-drop}
use Rattle.std.proofs.Math.Seq.{take-append_seam, drop-append-add}
use Rattle.files.specs.Lines.{written}
use Rattle.files.specs.Reports.{Wrote}
use Rattle.files.specs.declared.report.Report.{Report}

-- what is written between two parts
written_between : (x y a : List ℕ) → written (x ++ y) (length x) a ≡ x ++ (a ++ drop (length a) y)
written_between x y a = ap₂ (λ (u v : List ℕ). u ++ (a ++ v)) (take-append_seam x y) (drop-append-add x y (length a))

-- what is written at the end of a text that was written
written_more : (x y a b : List ℕ) → written (written (x ++ y) (length x) a) (length x + length a) b ≡ written (x ++ y) (length x) (a ++ b)
written_more x y a b =
    rw (written_between x y a, ← append_assoc x a (drop (length a) y), ← length-append x a, written_between (x ++ a) (drop (length a) y) b, written_between x y (a ++ b))
    (simp (append_assoc, length-append, drop-drop))

pub wrote_none : (report : Report) → Wrote report report []
wrote_none report =
    let end : report.written + 0 ≡ report.written = omega arith in
    record {
      place = refl;
      size = refl;
      end = sym end;
      bytes = sym (ap (λ (n : ℕ). take report.written report.bytes.now ++ drop n report.bytes.now) end ∙ take-append-drop report.written report.bytes.now);
    }

pub wrote_more : (a b c : Report) (s t : List ℕ) → Wrote a b s → Wrote b c t → Wrote a c (s ++ t)
wrote_more a b c s t p q =
    let l = length-append s t in
    let front : length (take a.written a.bytes.now) ≡ a.written = length-take-le a.written a.bytes.now a.within in
    let more = written_more (take a.written a.bytes.now) (drop a.written a.bytes.now) s t in
    record {
      place = q.place ∙ p.place;
      size = q.size ∙ p.size;
      end = omega arith;
      bytes = q.bytes ∙ ap₂ (λ (bytes : List ℕ) (n : ℕ). written bytes n t) p.bytes p.end
          ∙ subst (λ (n : ℕ). written (written a.bytes.now n s) (n + length s) t ≡ written a.bytes.now n (s ++ t)) front
          (rw take-append-drop at more);
    }
