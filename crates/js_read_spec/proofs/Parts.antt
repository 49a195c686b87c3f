-- From the parts of a text as readers know them to the parts as the grammar has them, and back.
use Rattle.std.proofs.Common.{◌≡◌, ℕ, List, [], ◌∷◌, ◌++◌, refl, sym, ap, subst, ◌∙◌, append_assoc, append-nil}
use Rattle.js_tree.specs.Written.{Grammar, Is, ◌●◌, More, Each}
use Rattle.exact_place.specs.Grammar.{Spelling, Leads, IsLiteral, IsValue, IsMapped, IsList, no_items, an_item}

pub seq : {P Q : Grammar} {text : List ℕ} (front back : List ℕ) → text ≡ front ++ back → P front → Q back → (P ● Q) text
seq front back parts p q = record { front = front; back = back; first = p; second = q; parts = parts }

-- these bytes, and behind them the rest
pub led : {Q : Grammar} {text : List ℕ} (ws back : List ℕ) → text ≡ ws ++ back → Q back → (Is ws ● Q) text
led ws back parts q = record { front = ws; back = back; first = record { same = refl }; second = q; parts = parts }

pub lead_of : {ws : List ℕ} {Q : Grammar} {text : List ℕ} (s : (Is ws ● Q) text) → text ≡ ws ++ s.back
lead_of s = s.parts ∙ ap (λ (x : List ℕ). x ++ s.back) s.first.same

pub leads : {A : Type 0} {P : Spelling A} {ws : List ℕ} {Q : Grammar} {text : List ℕ} (x : A) (s : (Is ws ● Q) text) → P x s.back → Leads ws P x text
leads x s p = record { back = s.back; second = p; parts = lead_of s }

-- the last bytes
pub closing : {A : Type 0} {ws text : List ℕ} (x : A) → Is ws text → IsMapped (λ (u : Unit {0}). x) (IsLiteral ws) x text
closing x s = record { value = tt; first = record { is = s.same }; is = refl }

pub closed : {A : Type 0} {ws text : List ℕ} {x y : A} → IsMapped (λ (u : Unit {0}). x) (IsLiteral ws) y text → Is ws text
closed p = record { same = p.first.is }

pub no_more : {A : Type 0} (x : A) → IsValue x x []
no_more x = record { same = refl; empty = refl }

-- ---- lists

pub each_to : {A : Type 0} {P : A → Grammar} {xs : List A} {text : List ℕ} → IsList P xs text → Each P xs text
unfolding Each
each_to no_items = record { same = refl }
each_to (an_item {front = front} {back = back} p l) = seq front back refl p (each_to l)

pub each_from : {A : Type 0} (P : A → Grammar) (xs : List A) (text : List ℕ) → Each P xs text → IsList P xs text
unfolding Each
each_from P [] text s = subst (λ (t : List ℕ). IsList P [] t) (sym s.same) no_items
each_from P (x ∷ xs) text s = subst (λ (t : List ℕ). IsList P (x ∷ xs) t) (sym s.parts) (an_item s.first (each_from P xs s.back s.second))

pub more_to : {A : Type 0} {separator : List ℕ} {P : A → Grammar} {xs : List A} {text : List ℕ} → IsList (Leads separator P) xs text → More separator P xs text
unfolding More
more_to no_items = record { same = refl }
more_to {separator = separator} (an_item {front = front} {back = back} p l) = led separator (p.back ++ back) (ap (λ (x : List ℕ). x ++ back) p.parts ∙ append_assoc separator p.back back) (seq p.back back refl p.second (more_to l))

pub more_from : {A : Type 0} (separator : List ℕ) (P : A → Grammar) (xs : List A) (text : List ℕ) → More separator P xs text → IsList (Leads separator P) xs text
unfolding More
more_from separator P [] text s = subst (λ (t : List ℕ). IsList (Leads separator P) [] t) (sym s.same) no_items
more_from separator P (x ∷ xs) text s =
    let r = s.second in
    let whole : text ≡ (separator ++ r.front) ++ r.back = lead_of s ∙ ap (λ (t : List ℕ). separator ++ t) r.parts ∙ sym (append_assoc separator r.front r.back) in
    subst (λ (t : List ℕ). IsList (Leads separator P) (x ∷ xs) t) (sym whole) (an_item (record { back = r.front; second = r.first; parts = refl }) (more_from separator P xs r.back r.second))

-- one item more at the end
pub list_last : {A : Type 0} {P : Spelling A} {xs : List A} {text : List ℕ} → IsList P xs text → (x : A) (behind : List ℕ) → P x behind → IsList P (xs ++ x ∷ []) (text ++ behind)
list_last {P = P} no_items x behind p = subst (λ (t : List ℕ). IsList P (x ∷ []) t) (append-nil behind) (an_item p no_items)
list_last {P = P} (an_item {x = y} {xs = ys} {front = front} {back = back} q l) x behind p = subst (λ (t : List ℕ). IsList P (y ∷ (ys ++ x ∷ [])) t) (sym (append_assoc front back behind)) (an_item q (list_last l x behind p))

pub list_same : {A : Type 0} {P Q : Spelling A} {xs : List A} {text : List ℕ} → ((x : A) (t : List ℕ) → P x t → Q x t) → IsList P xs text → IsList Q xs text
list_same h no_items = no_items
list_same h (an_item {x = x} {front = front} p l) = an_item (h x front p) (list_same h l)

pub leads_same : {A : Type 0} {P Q : Spelling A} {ws : List ℕ} → ((x : A) (t : List ℕ) → P x t → Q x t) → (x : A) (text : List ℕ) → Leads ws P x text → Leads ws Q x text
leads_same h x text p = record { back = p.back; second = h x p.back p.second; parts = p.parts }
