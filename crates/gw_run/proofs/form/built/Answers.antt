-- The two outputs differ, the numbers are in their ranges, and what is taken is that of the configuration's entries.
use Rattle.std.proofs.Common.{◌≡◌, [], ◌∷◌, None, ◌∙◌, ap, refl, sym, subst}
use Rattle.std.specs.Prelude.{slice_get}
use Rattle.gw_config.specs.Lawful.{IsLawful, IsLawfulChannel}
use Rattle.gw_config.specs.Repeated.{repeated_in}
use Rattle.gw_run.proofs.Setups.{fits-bus, lawful_numbers, one-item, outs_apart, two-items}
use Rattle.gw_run.proofs.form.built.Goals as goal

pub returns : goal.returns
returns c =
    let buses : c.items.result.now ≡ c.source-item.result ∷ c.destination-item.result ∷ [] = two-items _ _ _ c.in-len2.len_at_least c.in-len2.len_below c.source-item.is c.destination-item.is in
    let channels : c.items-2.result.now ≡ c.receiver-item.result ∷ c.sender-item.result ∷ [] = two-items _ _ _ c.in-len2-items.len_at_least c.in-len2-items.len_below c.receiver-item.is c.sender-item.is in
    let paths : c.items-3.result.now ≡ c.path-item.result ∷ [] = one-item _ _ c.in-len1.len_at_least c.in-len1.len_below c.path-item.is in
    record {
      top = c.if-not-has_base_top.ensures;
      source = c.source-item.result;
      destination = c.destination-item.result;
      buffer = c.in-Some.ensures;
      buses = ap (λ v. v.bus) (sym c.config.view_is) ∙ sym c.items.ensures ∙ buses;
      channels = ap (λ v. v.channel) (sym c.config.view_is) ∙ sym c.items-2.ensures ∙ channels;
      paths = ap (λ v. v.path) (sym c.config.view_is) ∙ sym c.items-3.ensures ∙ paths;
      source_is = c.if-not-is_base_bus.ensures;
      destination_is = c.if-not-is_base_bus-2.ensures;
      receiver_on = c.if-not-is_on.ensures ∙ c.items-4.ensures ∙ ap (λ b. b.name) c.source.view_is;
      sender_on = c.if-not-is_on-2.ensures ∙ c.items-5.ensures ∙ ap (λ b. b.name) c.destination.view_is;
      path_is = rw (← ap (λ b. b.name) c.receiver.view_is, ← ap (λ b. b.name) c.sender.view_is, ← c.items-6.ensures, ← c.items-7.ensures) c.if-not-is_base_path.ensures;
      source_bus = c.bus_of.ensures;
      destination_bus = c.bus_of-2.ensures;
      period = ap (λ v. v.period) c.config.view_is;
      linger = ap (λ v. v.linger) c.config.view_is;
    }

pub invariant_of-result : goal.invariant_of-result
invariant_of-result c =
    let listed : c.items.result.now ≡ c.source-item.result ∷ c.destination-item.result ∷ [] = two-items _ _ _ c.in-len2.len_at_least c.in-len2.len_below c.source-item.is c.destination-item.is in
    let buses : c.args.config.now.bus ≡ c.source-item.result ∷ c.destination-item.result ∷ [] = ap (λ v. v.bus) (sym c.config.view_is) ∙ sym c.items.ensures ∙ listed in
    let all : c.items-2.result.now ≡ c.receiver-item.result ∷ c.sender-item.result ∷ [] = two-items _ _ _ c.in-len2-items.len_at_least c.in-len2-items.len_below c.receiver-item.is c.sender-item.is in
    let channels : c.args.config.now.channel ≡ c.receiver-item.result ∷ c.sender-item.result ∷ [] = ap (λ v. v.channel) (sym c.config.view_is) ∙ sym c.items-2.ensures ∙ all in
    rw (c.bus_of.ensures, c.bus_of-2.ensures)
    (lawful_numbers c.args.config.now _ (subst IsLawful c.config.view_is c.config.invariant) c.in-Some.ensures (ap (λ v. v.period) c.config.view_is) (ap (λ v. v.linger) c.config.view_is)
    (subst IsLawfulChannel c.receiver.view_is c.receiver.invariant) (subst IsLawfulChannel c.sender.view_is c.sender.invariant)
    (outs_apart c.args.config.now c.source-item.result c.destination-item.result (subst (λ v. repeated_in v ≡ None) c.config.view_is c.config.invariant.repeated) buses)
    c.if-not-is_base_bus.ensures.budget c.if-not-is_base_bus-2.ensures.budget
    (fits-bus c.args.config.now 0 0 c.receiver-item.result c.source-item.result c.requires (ap (λ l. slice_get l 0) channels) (ap (λ l. slice_get l 0) buses) (c.if-not-is_on.ensures ∙ c.items-4.ensures ∙ ap (λ b. b.name) c.source.view_is) _ refl)
    (fits-bus c.args.config.now 1 1 c.sender-item.result c.destination-item.result c.requires (ap (λ l. slice_get l 1) channels) (ap (λ l. slice_get l 1) buses) (c.if-not-is_on-2.ensures ∙ c.items-5.ensures ∙ ap (λ b. b.name) c.destination.view_is) _ refl))
