use Rattle.std.proofs.Common.{◌≡◌, ◌||◌, refl, sym, ap, ◌∙◌, length, codes}
use Rattle.httparse.specs.Spans.{header_bytes}
use Rattle.bsp_routes.proofs.FieldLemmas.{any_with, keep, keep_closes, keep_expects}
use Rattle.bsp_routes.specs.Fields.{is_close, is_expect}
use Rattle.bsp_routes.proofs.fields.Fields.add.Goals as goal

pub returns-in-4 : goal.returns-in-4
returns-in-4 c =
    let text = c.args.text.now in
    let h = header_bytes text c.args.header.now in
    λ before is.
    let len : length h.0 ≡ 4 = ap length (sym c.of.ensures) ∙ c.in-4.is in
    record {
      hosts = c.and_named-self.ensures before is.hosts;
      codings = keep before h 4 len text (codes "transfer-encoding") _ refl is.codings;
      lengths = keep before h 4 len text (codes "content-length") _ refl is.lengths;
      tokens = keep before h 4 len text (codes "bsp-token") _ refl is.tokens;
      closes = keep_closes before h 4 len _ refl is.closes;
      expects = keep_expects before h 4 len _ refl is.expects;
    }

pub returns-in-6 : goal.returns-in-6
returns-in-6 c =
    let text = c.args.text.now in
    let h = header_bytes text c.args.header.now in
    λ before is.
    let len : length h.0 ≡ 6 = ap length (sym c.of.ensures) ∙ c.in-6.is in
    record {
      hosts = keep before h 6 len text (codes "host") _ refl is.hosts;
      codings = keep before h 6 len text (codes "transfer-encoding") _ refl is.codings;
      lengths = keep before h 6 len text (codes "content-length") _ refl is.lengths;
      tokens = keep before h 6 len text (codes "bsp-token") _ refl is.tokens;
      closes = keep_closes before h 6 len _ refl is.closes;
      expects = ap (λ b. c.args.self.now.expects || b) c.is_expect.ensures ∙ any_with before h is_expect _ is.expects;
    }

pub returns-in-9 : goal.returns-in-9
returns-in-9 c =
    let text = c.args.text.now in
    let h = header_bytes text c.args.header.now in
    λ before is.
    let len : length h.0 ≡ 9 = ap length (sym c.of.ensures) ∙ c.in-9.is in
    record {
      hosts = keep before h 9 len text (codes "host") _ refl is.hosts;
      codings = keep before h 9 len text (codes "transfer-encoding") _ refl is.codings;
      lengths = keep before h 9 len text (codes "content-length") _ refl is.lengths;
      tokens = c.and_named-self-in-9.ensures before is.tokens;
      closes = keep_closes before h 9 len _ refl is.closes;
      expects = keep_expects before h 9 len _ refl is.expects;
    }

pub returns-in-10 : goal.returns-in-10
returns-in-10 c =
    let text = c.args.text.now in
    let h = header_bytes text c.args.header.now in
    λ before is.
    let len : length h.0 ≡ 10 = ap length (sym c.of.ensures) ∙ c.in-10.is in
    record {
      hosts = keep before h 10 len text (codes "host") _ refl is.hosts;
      codings = keep before h 10 len text (codes "transfer-encoding") _ refl is.codings;
      lengths = keep before h 10 len text (codes "content-length") _ refl is.lengths;
      tokens = keep before h 10 len text (codes "bsp-token") _ refl is.tokens;
      closes = ap (λ b. c.args.self.now.closes || b) c.is_close.ensures ∙ any_with before h is_close _ is.closes;
      expects = keep_expects before h 10 len _ refl is.expects;
    }

pub returns-in-14 : goal.returns-in-14
returns-in-14 c =
    let text = c.args.text.now in
    let h = header_bytes text c.args.header.now in
    λ before is.
    let len : length h.0 ≡ 14 = ap length (sym c.of.ensures) ∙ c.in-14.is in
    record {
      hosts = keep before h 14 len text (codes "host") _ refl is.hosts;
      codings = keep before h 14 len text (codes "transfer-encoding") _ refl is.codings;
      lengths = c.and_named-self-in-14.ensures before is.lengths;
      tokens = keep before h 14 len text (codes "bsp-token") _ refl is.tokens;
      closes = keep_closes before h 14 len _ refl is.closes;
      expects = keep_expects before h 14 len _ refl is.expects;
    }

pub returns-in-17 : goal.returns-in-17
returns-in-17 c =
    let text = c.args.text.now in
    let h = header_bytes text c.args.header.now in
    λ before is.
    let len : length h.0 ≡ 17 = ap length (sym c.of.ensures) ∙ c.in-17.is in
    record {
      hosts = keep before h 17 len text (codes "host") _ refl is.hosts;
      codings = c.and_named-self-in-17.ensures before is.codings;
      lengths = keep before h 17 len text (codes "content-length") _ refl is.lengths;
      tokens = keep before h 17 len text (codes "bsp-token") _ refl is.tokens;
      closes = keep_closes before h 17 len _ refl is.closes;
      expects = keep_expects before h 17 len _ refl is.expects;
    }
