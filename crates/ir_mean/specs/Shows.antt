-- What the initializers of a public module show.
use Rattle.std.specs.Prelude.{ℕ, false, List, [], ◌∷◌, slice_get, codes, Option, Some, None, if◌then◌else◌}
use Rattle.sj_names.specs.declared.entry_points.EntryPoint.{EntryPoint}
use Rattle.sj_names.specs.declared.method_names.Namespace.TheVariants.{PublicStatic}
use Rattle.sj_names.specs.declared.references.TypeRef.TheVariants.{Void}
use Rattle.sj_trees.specs.declared.types.IrType.TheVariants.{NoType}
use Rattle.sj_trees.specs.Term.{Term, no_terms, apply_static}
use Rattle.outcomes.specs.Outcome.{done, wrong, then_do}
use Rattle.outcomes.specs.Shown.{Thrown, normal, uncaught, Shown}
use Rattle.outcomes.specs.Shown as shown
use Rattle.sj_names.specs.Same.{is_same_text}
use Rattle.ir_mean.specs.States.{Value, undefined, null, boolean, char, number, long, text, reference, Stored, object, array, State, Env, gives, throws, leaves, stops, Ended, ends}
use Rattle.ir_mean.specs.World.{World, opening}
use Rattle.ir_mean.specs.Meaning.{meaning}

-- the initializers of the public module of this id, in order
abbrev pub initializers : List EntryPoint → List ℕ → List EntryPoint
initializers [] id = []
initializers (e ∷ es) id = if is_same_text id e.module then (e ∷ initializers es id) else initializers es id

-- the tree of an initializer: a call of its static method, which has no parameters and no result
abbrev pub initializer_call : EntryPoint → Term
initializer_call e = apply_static (record { file = 0; line = 0; column = 0 }) e.class PublicStatic (record { simple = e.method; params = []; result = Some Void }) no_terms NoType

-- outside any method: no This and no locals
abbrev pub outside : Env
outside = record { this_value = None; locals = λ x. None; sure = λ x. false }

abbrev pub thrown_stored : Option Stored → Option Thrown
thrown_stored None = None
thrown_stored (Some (object c fields)) = Some (shown.object_of c)
thrown_stored (Some (array r items)) = Some (shown.object_of (codes "java.lang.Object"))

-- a thrown value as it is shown
abbrev pub thrown : State → Value → Option Thrown
thrown s undefined = Some shown.undefined
thrown s null = Some shown.null
thrown s (boolean b) = Some (shown.boolean b)
thrown s (char u) = Some (shown.char u)
thrown s (number z) = Some (shown.number z)
thrown s (long z) = Some (shown.long z)
thrown s (text us) = Some (shown.text us)
thrown s (reference a) = thrown_stored (slice_get s.heap a)

abbrev pub uncaught_or_wrong : Option Thrown → Shown
uncaught_or_wrong None = wrong
uncaught_or_wrong (Some t) = done (uncaught t)

abbrev pub next_or_end : (State → Shown) → Ended → Shown
next_or_end next (ends (gives v) env s) = next s
next_or_end next (ends (throws v) env s) = uncaught_or_wrong (thrown s v)
next_or_end next (ends (leaves l v) env s) = wrong
next_or_end next (ends stops env s) = wrong

-- these initializers, one after the other, each evaluated with this bound
abbrev pub all_show : World → ℕ → List EntryPoint → State → Shown
all_show w n [] s = done normal
all_show w n (e ∷ es) s = then_do (meaning w n (initializer_call e) outside s) (next_or_end (all_show w n es))

-- what the initializers of a public module show within this bound
abbrev pub ir_shows : World → List EntryPoint → List ℕ → ℕ → Shown
ir_shows w entries id n = all_show w n (initializers entries id) (opening w)
