-- Calls and resources.
use Rattle.std.proofs.Common.{◌≡◌, ℕ, List, [], ◌∷◌, Bool, true, false, ◌||◌, refl, sym, ap, ◌∙◌, subst, All}
use Rattle.std.specs.Borrow.{Bor}
use Rattle.std.specs.Prelude.{bytes_eq}
use Rattle.std.specs.Cmp.Lexicographic.{bytes_decides}
use Rattle.std.proofs.lemmas.Bool.{false≢true}
use Rattle.std.proofs.lemmas.List.Elements.{All-head, All-tail, All-nil, All-cons}
use Rattle.bsp_routes.specs.declared.resource.Resource.{Resource}
use Rattle.bsp_routes.specs.declared.resource.Resource.TheVariants as resource
use Rattle.bsp_routes.specs.declared.call.OfficeCall.TheVariants as office
use Rattle.bsp_routes.specs.declared.call.AgentCall.TheVariants as agent
use Rattle.bsp_routes.specs.declared.call.AirlineCall.TheVariants as airline
use Rattle.bsp_routes.specs.declared.call.Call.{Call}
use Rattle.bsp_routes.specs.declared.call.Call.TheVariants.{Office, Agent, Airline}
use Rattle.bsp_routes.specs.declared.asking.Asking.{Asking}
use Rattle.bsp_routes.specs.declared.asking.Asking.TheVariants as asking
use Rattle.bsp_routes.specs.declared.methods.Methods.{Methods}
use Rattle.bsp_routes.specs.declared.methods.Methods.TheVariants.{Get, Post, GetAndPost}
use Rattle.bsp_routes.specs.Targets.{IsValue}
use Rattle.bsp_routes.specs.Resources.{IsPathOf, methods, call_at}
use Rattle.bsp_routes.specs.Calls.{CallText, map_call, method_of, get, post, lists, IsCallAt, HasCall, AreMethodsAt, Asks}
use Rattle.bsp_routes.proofs.Paths.{one_resource, one_path}

same_bytes : (m w : List ℕ) → bytes_eq m w ≡ true → w ≡ m
same_bytes m w e = sym ((bytes_decides m w).0 e)

one : (a : List ℕ) → IsValue a → All IsValue (a ∷ [])
one a i = All-cons IsValue a [] i (All-nil IsValue)

two : (a b : List ℕ) → IsValue a → IsValue b → All IsValue (a ∷ (b ∷ []))
two a b i j = All-cons IsValue a (b ∷ []) i (one b j)

-- the call at a resource, with the bytes of its values
text_at : (p : Resource) (a b : Bor (List ℕ)) (posts : Bool) → map_call (λ (value : Bor (List ℕ)). value.now) (call_at p a b posts) ≡ call_at p a.now b.now posts
text_at resource.Plan a b posts = refl
text_at resource.Day a b posts = refl
text_at resource.Agents a b posts = refl
text_at resource.Airlines a b posts = refl
text_at resource.Allot a b posts = refl
text_at resource.Withdraw a b posts = refl
text_at resource.OfficeRet a b posts = refl
text_at resource.Close a b posts = refl
text_at resource.Settlement a b posts = refl
text_at resource.AgentRet a b posts = refl
text_at resource.Stock a b posts = refl
text_at resource.AgentMemos a b posts = refl
text_at resource.Dispute a b posts = refl
text_at resource.Agree a b posts = refl
text_at resource.Document a b posts = refl
text_at resource.Period a b posts = refl
text_at resource.Statement a b posts = refl
text_at resource.AirlineMemos a b true = refl
text_at resource.AirlineMemos a b false = refl
text_at resource.Uphold a b posts = refl
text_at resource.WithdrawMemo a b posts = refl
text_at resource.Reduce a b posts = refl
text_at resource.Hot a b posts = refl

-- a path of a resource is that of its call
is_call : (p : Resource) (a b : List ℕ) (posts : Bool) (target : List ℕ) → IsPathOf p a b target → IsCallAt target (call_at p a b posts)
is_call resource.Plan a b posts target h = (h.0, h.1.0, All-nil IsValue)
is_call resource.Day a b posts target h = (h.0, h.1.0, All-nil IsValue)
is_call resource.Agents a b posts target h = (h.0, h.1.0, All-nil IsValue)
is_call resource.Airlines a b posts target h = (h.0, h.1.0, All-nil IsValue)
is_call resource.Allot a b posts target h = (h.0, h.1.0, All-nil IsValue)
is_call resource.Withdraw a b posts target h = (h.0, h.1.0, All-nil IsValue)
is_call resource.OfficeRet a b posts target h = (h.0, h.1.0, All-nil IsValue)
is_call resource.Close a b posts target h = (h.0, h.1.0, All-nil IsValue)
is_call resource.Settlement a b posts target h = (h.0, h.1.0, one a h.1.1)
is_call resource.AgentRet a b posts target h = (h.0, h.1.0, one a h.1.1)
is_call resource.Stock a b posts target h = (h.0, h.1.0, one a h.1.1)
is_call resource.AgentMemos a b posts target h = (h.0, h.1.0, one a h.1.1)
is_call resource.Dispute a b posts target h = (h.0, h.1.0, one a h.1.1)
is_call resource.Agree a b posts target h = (h.0, h.1.0, one a h.1.1)
is_call resource.Document a b posts target h = (h.0, h.1.0, two a b h.1.1 h.1.2)
is_call resource.Period a b posts target h = (h.0, h.1.0, two a b h.1.1 h.1.2)
is_call resource.Statement a b posts target h = (h.0, h.1.0, two a b h.1.1 h.1.2)
is_call resource.AirlineMemos a b true target h = (h.0, h.1.0, one a h.1.1)
is_call resource.AirlineMemos a b false target h = (h.0, h.1.0, one a h.1.1)
is_call resource.Uphold a b posts target h = (h.0, h.1.0, one a h.1.1)
is_call resource.WithdrawMemo a b posts target h = (h.0, h.1.0, one a h.1.1)
is_call resource.Reduce a b posts target h = (h.0, h.1.0, one a h.1.1)
is_call resource.Hot a b posts target h = (h.0, h.1.0, two a b h.1.1 h.1.2)

either_get : (m : List ℕ) → (bytes_eq m get || bytes_eq m post) ≡ true → bytes_eq m post ≡ false → get ≡ m
either_get m e n = by (bytes_eq m get) refl (bytes_eq m post) n e
  where
    by : (x : Bool) → bytes_eq m get ≡ x → (y : Bool) → y ≡ false → (x || y) ≡ true → get ≡ m
    by true q y n e = same_bytes m get q
    by false q y n e = absurd (false≢true (sym n ∙ e))

-- a method of a resource is that of its call
is_method : (p : Resource) (a b : List ℕ) (posts : Bool) (m : List ℕ) → bytes_eq m post ≡ posts → lists (methods p) m ≡ true → method_of (call_at p a b posts) ≡ m
is_method resource.Plan a b posts m q e = same_bytes m post e
is_method resource.Day a b posts m q e = same_bytes m post e
is_method resource.Agents a b posts m q e = same_bytes m post e
is_method resource.Airlines a b posts m q e = same_bytes m post e
is_method resource.Allot a b posts m q e = same_bytes m post e
is_method resource.Withdraw a b posts m q e = same_bytes m post e
is_method resource.OfficeRet a b posts m q e = same_bytes m post e
is_method resource.Close a b posts m q e = same_bytes m post e
is_method resource.Settlement a b posts m q e = same_bytes m get e
is_method resource.AgentRet a b posts m q e = same_bytes m post e
is_method resource.Stock a b posts m q e = same_bytes m get e
is_method resource.AgentMemos a b posts m q e = same_bytes m get e
is_method resource.Dispute a b posts m q e = same_bytes m post e
is_method resource.Agree a b posts m q e = same_bytes m post e
is_method resource.Document a b posts m q e = same_bytes m get e
is_method resource.Period a b posts m q e = same_bytes m get e
is_method resource.Statement a b posts m q e = same_bytes m get e
is_method resource.AirlineMemos a b true m q e = same_bytes m post q
is_method resource.AirlineMemos a b false m q e = either_get m e q
is_method resource.Uphold a b posts m q e = same_bytes m post e
is_method resource.WithdrawMemo a b posts m q e = same_bytes m post e
is_method resource.Reduce a b posts m q e = same_bytes m post e
is_method resource.Hot a b posts m q e = same_bytes m get e

-- a call at a target is that of a resource there, which has its method
record Placed (target : List ℕ) (call : CallText) : Type 0 where
  resource : Resource
  first : List ℕ
  second : List ℕ
  path : IsPathOf resource first second target
  is : call ≡ call_at resource first second (bytes_eq (method_of call) post)
  method : lists (methods resource) (method_of call) ≡ true

head_value : (a : List ℕ) (vs : List (List ℕ)) → All IsValue (a ∷ vs) → IsValue a
head_value a vs h = All-head IsValue a vs h

next_value : (a b : List ℕ) (vs : List (List ℕ)) → All IsValue (a ∷ (b ∷ vs)) → IsValue b
next_value a b vs h = All-head IsValue b vs (All-tail IsValue a (b ∷ vs) h)

placed : (target : List ℕ) (call : CallText) → IsCallAt target call → Placed target call
placed target (Office office.Plan) h = record { resource = resource.Plan; first = []; second = []; path = (h.0, (h.1, refl, refl)); is = refl; method = refl }
placed target (Office office.Day) h = record { resource = resource.Day; first = []; second = []; path = (h.0, (h.1, refl, refl)); is = refl; method = refl }
placed target (Office office.RegisterAgent) h = record { resource = resource.Agents; first = []; second = []; path = (h.0, (h.1, refl, refl)); is = refl; method = refl }
placed target (Office office.RegisterAirline) h = record { resource = resource.Airlines; first = []; second = []; path = (h.0, (h.1, refl, refl)); is = refl; method = refl }
placed target (Office office.Allot) h = record { resource = resource.Allot; first = []; second = []; path = (h.0, (h.1, refl, refl)); is = refl; method = refl }
placed target (Office office.Withdraw) h = record { resource = resource.Withdraw; first = []; second = []; path = (h.0, (h.1, refl, refl)); is = refl; method = refl }
placed target (Office office.Ret) h = record { resource = resource.OfficeRet; first = []; second = []; path = (h.0, (h.1, refl, refl)); is = refl; method = refl }
placed target (Office office.Close) h = record { resource = resource.Close; first = []; second = []; path = (h.0, (h.1, refl, refl)); is = refl; method = refl }
placed target (Office (office.Settlement v)) h = record { resource = resource.Settlement; first = v; second = []; path = (h.0, (h.1, head_value v [] h.2, refl)); is = refl; method = refl }
placed target (Agent a agent.Ret) h = record { resource = resource.AgentRet; first = a; second = []; path = (h.0, (h.1, head_value a [] h.2, refl)); is = refl; method = refl }
placed target (Agent a agent.Stock) h = record { resource = resource.Stock; first = a; second = []; path = (h.0, (h.1, head_value a [] h.2, refl)); is = refl; method = refl }
placed target (Agent a agent.Memos) h = record { resource = resource.AgentMemos; first = a; second = []; path = (h.0, (h.1, head_value a [] h.2, refl)); is = refl; method = refl }
placed target (Agent a agent.Dispute) h = record { resource = resource.Dispute; first = a; second = []; path = (h.0, (h.1, head_value a [] h.2, refl)); is = refl; method = refl }
placed target (Agent a agent.Agree) h = record { resource = resource.Agree; first = a; second = []; path = (h.0, (h.1, head_value a [] h.2, refl)); is = refl; method = refl }
placed target (Agent a (agent.Document v)) h = record { resource = resource.Document; first = a; second = v; path = (h.0, (h.1, head_value a (v ∷ []) h.2, next_value a v [] h.2)); is = refl; method = refl }
placed target (Agent a (agent.Period v)) h = record { resource = resource.Period; first = a; second = v; path = (h.0, (h.1, head_value a (v ∷ []) h.2, next_value a v [] h.2)); is = refl; method = refl }
placed target (Agent a (agent.Statement v)) h = record { resource = resource.Statement; first = a; second = v; path = (h.0, (h.1, head_value a (v ∷ []) h.2, next_value a v [] h.2)); is = refl; method = refl }
placed target (Airline a airline.Memos) h = record { resource = resource.AirlineMemos; first = a; second = []; path = (h.0, (h.1, head_value a [] h.2, refl)); is = refl; method = refl }
placed target (Airline a airline.Issue) h = record { resource = resource.AirlineMemos; first = a; second = []; path = (h.0, (h.1, head_value a [] h.2, refl)); is = refl; method = refl }
placed target (Airline a airline.Uphold) h = record { resource = resource.Uphold; first = a; second = []; path = (h.0, (h.1, head_value a [] h.2, refl)); is = refl; method = refl }
placed target (Airline a airline.Withdraw) h = record { resource = resource.WithdrawMemo; first = a; second = []; path = (h.0, (h.1, head_value a [] h.2, refl)); is = refl; method = refl }
placed target (Airline a airline.Reduce) h = record { resource = resource.Reduce; first = a; second = []; path = (h.0, (h.1, head_value a [] h.2, refl)); is = refl; method = refl }
placed target (Airline a (airline.Hot v)) h = record { resource = resource.Hot; first = a; second = v; path = (h.0, (h.1, head_value a (v ∷ []) h.2, next_value a v [] h.2)); is = refl; method = refl }

-- the methods of a resource are those of the calls at its path
methods_at : (p : Resource) (a b target : List ℕ) → IsPathOf p a b target → AreMethodsAt target (methods p)
methods_at p a b target h = λ m. (to m, from m)
  where
    to : (m : List ℕ) → lists (methods p) m ≡ true → HasCall target m
    to m e = (call_at p a b (bytes_eq m post), is_call p a b (bytes_eq m post) target h, is_method p a b (bytes_eq m post) m refl e)

    from : (m : List ℕ) → HasCall target m → lists (methods p) m ≡ true
    from m has =
        let at = placed target has.0 has.1 in
        let same = one_resource at.resource p at.first at.second a b target at.path h in
        subst (λ (x : List ℕ). lists (methods p) x ≡ true) has.2 (subst (λ (x : Resource). lists (methods x) (method_of has.0) ≡ true) same at.method)

-- what is asked of a resource by one of its methods
pub asks_call : (p : Resource) (a b : Bor (List ℕ)) (posts : Bool) (call : Call (Bor (List ℕ))) (method target : List ℕ) → IsPathOf p a.now b.now target → lists (methods p) method ≡ true
    → call ≡ call_at p a b posts → posts ≡ bytes_eq method post → Asks method target (asking.Call (map_call (λ (value : Bor (List ℕ)). value.now) call))
asks_call p a b posts call method target h e is q =
    let text = ap (map_call (λ (value : Bor (List ℕ)). value.now)) is ∙ text_at p a b posts in
    subst (λ (x : CallText). Asks method target (asking.Call x)) (sym text) (is_call p a.now b.now posts target h, is_method p a.now b.now posts method (sym q) e)

-- and by another method
pub asks_other : (p : Resource) (a b method target : List ℕ) (x : Methods) → IsPathOf p a b target → x ≡ methods p → lists x method ≡ false → Asks method target (asking.OtherMethod x)
asks_other p a b method target x h is e = (subst (λ (m : Methods). AreMethodsAt target m) (sym is) (methods_at p a b target h), e)

pub asks_none : (method target : List ℕ) → ((p : Resource) (a b : List ℕ) → IsPathOf p a b target → ⊥) → Asks method target asking.NoRoute
asks_none method target none = λ call at. let h = placed target call at in none h.resource h.first h.second h.path

-- of one method one call is at a target
one_call : (target : List ℕ) (x y : CallText) → IsCallAt target x → IsCallAt target y → method_of x ≡ method_of y → x ≡ y
one_call target x y hx hy m =
    let px = placed target x hx in
    let py = placed target y hy in
    let p = one_resource px.resource py.resource px.first px.second py.first py.second target px.path py.path in
    let v = one_path py.resource px.first px.second py.first py.second target (subst (λ (r : Resource). IsPathOf r px.first px.second target) p px.path) py.path in
    px.is ∙ ap (λ (r : Resource). call_at r px.first px.second (bytes_eq (method_of x) post)) p
    ∙ ap (λ (a : List ℕ). call_at py.resource a px.second (bytes_eq (method_of x) post)) v.0
    ∙ ap (λ (b : List ℕ). call_at py.resource py.first b (bytes_eq (method_of x) post)) v.1
    ∙ ap (λ (n : List ℕ). call_at py.resource py.first py.second (bytes_eq n post)) m ∙ sym py.is

-- methods that list the same are the same
same_methods : (x y : Methods) → ((m : List ℕ) → lists x m ≡ true → lists y m ≡ true) → ((m : List ℕ) → lists y m ≡ true → lists x m ≡ true) → x ≡ y
same_methods Get Get f g = refl
same_methods Get Post f g = absurd (false≢true (f get refl))
same_methods Get GetAndPost f g = absurd (false≢true (g post refl))
same_methods Post Get f g = absurd (false≢true (f post refl))
same_methods Post Post f g = refl
same_methods Post GetAndPost f g = absurd (false≢true (g get refl))
same_methods GetAndPost Get f g = absurd (false≢true (f post refl))
same_methods GetAndPost Post f g = absurd (false≢true (f get refl))
same_methods GetAndPost GetAndPost f g = refl

some_method : (x : Methods) → (m : List ℕ) × (lists x m ≡ true)
some_method Get = (get, refl)
some_method Post = (post, refl)
some_method GetAndPost = (get, refl)

-- a call of another method than those listed
not_listed : (method target : List ℕ) (call : CallText) (x : Methods) → Asks method target (asking.Call call) → Asks method target (asking.OtherMethod x) → ⊥
not_listed method target call x hc hx = false≢true (sym hx.1 ∙ (hx.0 method).1 (call, hc.0, hc.1))

-- methods without a call
no_methods : (method target : List ℕ) (x : Methods) → Asks method target (asking.OtherMethod x) → Asks method target asking.NoRoute → ⊥
no_methods method target x hx none =
    let some = some_method x in
    let has = (hx.0 some.0).0 some.1 in
    none has.0 has.1

-- a method and a target ask for one thing
pub one_asking : (method target : List ℕ) (x y : Asking (List ℕ)) → Asks method target x → Asks method target y → x ≡ y
one_asking method target (asking.Call c) (asking.Call d) hx hy = ap (λ (call : CallText). asking.Call call) (one_call target c d hx.0 hy.0 (hx.1 ∙ sym hy.1))
one_asking method target (asking.Call c) (asking.OtherMethod y) hx hy = absurd (not_listed method target c y hx hy)
one_asking method target (asking.Call c) asking.NoRoute hx hy = absurd (hy c hx.0)
one_asking method target (asking.OtherMethod x) (asking.Call d) hx hy = absurd (not_listed method target d x hy hx)
one_asking method target (asking.OtherMethod x) (asking.OtherMethod y) hx hy =
    ap (λ (m : Methods). asking.OtherMethod m) (same_methods x y (λ m e. (hy.0 m).1 ((hx.0 m).0 e)) (λ m e. (hx.0 m).1 ((hy.0 m).0 e)))
one_asking method target (asking.OtherMethod x) asking.NoRoute hx hy = absurd (no_methods method target x hx hy)
one_asking method target asking.NoRoute (asking.Call d) hx hy = absurd (hx d hy.0)
one_asking method target asking.NoRoute (asking.OtherMethod y) hx hy = absurd (no_methods method target y hy hx)
one_asking method target asking.NoRoute asking.NoRoute hx hy = refl
