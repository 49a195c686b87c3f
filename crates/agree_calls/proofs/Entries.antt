-- The entries of methods that objects find: an array finds those of the class of objects.
use Rattle.std.proofs.Common.{◌≡◌, ℕ, List, refl, sym, ap, ◌∙◌}
use Rattle.js_mean.specs.Objects as js_objects
use Rattle.js_mean.specs.States as js
use Rattle.agree_bodies.proofs.Classes.{LinksOf, of_class, of_arrays}
use Rattle.agree_bodies.specs.Settings.{Place, links_of}
use Rattle.agree_calls.specs.Worlds.{ArrayEntries}
use Rattle.sj_mangling.specs.Bindings.{method_binding}
use Rattle.sj_mangling.specs.declared.bindings.MethodBinding.TheVariants.{Entry}
use Rattle.sj_names.specs.declared.method_names.MethodName.{MethodName}

pub entries_of : (p : Place) → ArrayEntries p → (c : List ℕ) (links : List js.ClassLink) → LinksOf p c links → (m : MethodName) → js_objects.method_on p.program links (method_binding Entry m) ≡ js_objects.method_on p.program (links_of p c) (method_binding Entry m)
entries_of p arrays c _ of_class m = refl
entries_of p arrays c _ (of_arrays is there) m = arrays there m ∙ ap (λ d. js_objects.method_on p.program (links_of p d) (method_binding Entry m)) (sym is)
