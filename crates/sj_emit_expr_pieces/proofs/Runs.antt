-- The names of what calls run, in the parts of a method.
use Rattle.std.proofs.Common.{List, [], ◌++◌}
use Rattle.std.proofs.lemmas.List.Elements.{Contains-append_left, Contains-append_right, Contains-push}
use Rattle.sj_emit_expr_questions.specs.Calls.{if_public}
use Rattle.sj_emit_expr_questions.specs.declared.Inquiry.{Inquiry}
use Rattle.sj_emit_expr_questions.specs.declared.Inquiry.TheVariants as inquiries
use Rattle.sj_core.specs.Lookup.{Lookup}
use Rattle.sj_emit_expr_spec.specs.Templates.{called_member}
use Rattle.sj_names.specs.declared.method_names.Member.{Member}
use Rattle.sj_names.specs.declared.method_names.Namespace.{Namespace}
use Rattle.sj_names.specs.declared.method_names.Namespace.TheVariants.{Public}
use Rattle.sj_emit_expr_pieces.specs.Fits.{RunsFit}
use Rattle.sj_emit_expr_pieces.specs.Ranges.{FitsMember}

module _ (known : Lookup) where
  pub two : (xs ys : List Inquiry) → RunsFit known (xs ++ ys) → RunsFit known xs × RunsFit known ys
  two xs ys f = (λ k c. f k (Contains-append_left xs ys (inquiries.Target k) c), λ k c. f k (Contains-append_right xs ys (inquiries.Target k) c))

  pub three : (xs ys zs : List Inquiry) → RunsFit known ((xs ++ ys) ++ zs) → RunsFit known xs × RunsFit known ys × RunsFit known zs
  three xs ys zs f =
      let p = two (xs ++ ys) zs f in
      let q = two xs ys p.0 in
      (q.0, q.1, p.1)

  pub run-fits : (n : Namespace) (m : Member) → RunsFit known (if_public n m) → FitsMember m → FitsMember (called_member known n m)
  run-fits Public m f h = f m (Contains-push [] (inquiries.Target m)) h
  run-fits _ m f h = h
