-- The types that a place allows, and what operations take and give, as the tables of the code say it.
use Rattle.std.specs.Prelude.{List, [], ◌∷◌}
use Rattle.px_syntax.specs.declared.value_type.ValueType.{ValueType}
use Rattle.px_syntax.specs.declared.value_type.ValueType.TheVariants.{Integer, String}
use Rattle.px_syntax.specs.ValueType.{Signature as SignatureData, UnarySignature as UnarySignatureData, allowed_as, told_types, all_types, always, sum_type}
use Rattle.px_check.specs.declared.types.Allowed.{Allowed}
use Rattle.px_check.specs.declared.types.Allowed.TheVariants as allowed
use Rattle.px_check.specs.declared.types.Gives.{Gives}
use Rattle.px_check.specs.declared.types.Gives.TheVariants as gives
use Rattle.px_check.specs.declared.types.Signature.{Signature}
use Rattle.px_check.specs.declared.types.UnarySignature.{UnarySignature}

abbrev pub types_of : Allowed → List ValueType
types_of (allowed.Only of_type) = allowed_as of_type
types_of allowed.Addends = Integer ∷ String ∷ []
types_of allowed.Told = told_types
types_of allowed.Every = all_types

abbrev pub given_by_operands : Gives → ValueType → ValueType → ValueType
given_by_operands (gives.Always of_type) = always of_type
given_by_operands gives.Sum = sum_type

abbrev pub signature_data : Signature → SignatureData
signature_data signature = record {
  takes = types_of signature.takes;
  alike = signature.alike;
  gives = given_by_operands signature.gives;
}

abbrev pub unary_signature_data : UnarySignature → UnarySignatureData
unary_signature_data signature = record { takes = types_of signature.takes; gives = signature.gives }
