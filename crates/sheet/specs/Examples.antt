-- Worked examples of RFC 4180's rules and of the card's form, as texts.
use Rattle.std.specs.Prelude.{◌≡◌, [], ◌∷◌}
use Rattle.mtas.specs.Call.{AssignTrust, AddUser, AddRole, AddPerm, AssignUser, AssignPerm, AssignRH}
use Rattle.sheet.specs.Form.{ascii, user, role, perm, trust, give, grant, attach}
use Rattle.sheet.specs.Reading.{none, read, field, calls, wrong_at, rows}
use Rattle.sheet.specs.Converted.{converted}

pub record Examples : Type 0 where
  -- ---- the words
  pub all_words : rows (ascii "user,3\r\nrole,1\r\nperm,9\r\ntrust,2\r\ngive,10,15\r\ngrant,1,2,3\r\nattach,4,5,6\r\n")
      ≡ calls (AddUser 3 ∷ AddRole 1 ∷ AddPerm 9 ∷ AssignTrust 2 ∷ AssignUser 10 15 ∷ AssignPerm 1 2 3 ∷ AssignRH 4 5 6 ∷ [])
  pub upper_case : rows (ascii "User,3") ≡ wrong_at 1
  pub longer_word : rows (ascii "users,3") ≡ wrong_at 1
  pub shorter_word : rows (ascii "use,3") ≡ wrong_at 1
  pub no_word : rows (ascii ",3") ≡ wrong_at 1
  pub header : rows (ascii "word,first\r\nuser,3\r\n") ≡ wrong_at 1
  -- ---- 1: 'Each record is located on a separate line, delimited by a line break (CRLF)'
  pub two_rows : rows (ascii "user,3\r\nrole,1\r\n") ≡ calls (AddUser 3 ∷ AddRole 1 ∷ [])
  pub bare_lf : rows (ascii "user,3\nrole,1") ≡ wrong_at 1
  pub bare_cr : rows (ascii "user,3\rrole,1") ≡ wrong_at 1
  pub lf_cr : rows (ascii "user,3\n\rrole,1") ≡ wrong_at 1
  pub lf_at_the_end : rows (ascii "user,3\n") ≡ wrong_at 1
  pub cr_at_the_end : rows (ascii "user,3\r") ≡ wrong_at 1
  pub nul_at_the_end : rows (ascii "user,3\0") ≡ wrong_at 1
  pub third_line : rows (ascii "user,3\r\nrole,1\r\nrole,x\r\nuser,x\r\n") ≡ wrong_at 3
  -- ---- 2: 'The last record in the file may or may not have an ending line break'
  pub without_crlf : rows (ascii "user,3") ≡ calls (AddUser 3 ∷ [])
  pub with_crlf : rows (ascii "user,3\r\n") ≡ calls (AddUser 3 ∷ [])
  pub last_without_crlf : rows (ascii "user,3\r\nrole,1") ≡ calls (AddUser 3 ∷ AddRole 1 ∷ [])
  pub empty_file : rows (ascii "") ≡ calls []
  pub blank_line : rows (ascii "\r\n") ≡ wrong_at 1
  pub blank_first : rows (ascii "\r\nuser,3\r\n") ≡ wrong_at 1
  pub blank_between : rows (ascii "user,3\r\n\r\nrole,1") ≡ wrong_at 2
  pub blank_last : rows (ascii "user,3\r\n\r\n") ≡ wrong_at 2
  -- ---- 4: 'one or more fields, separated by commas', 'Spaces are considered part of a field', 'The last field in the record must not be followed by a comma'
  pub no_comma : rows (ascii "user") ≡ wrong_at 1
  pub another_separator : rows (ascii "user;3") ≡ wrong_at 1
  pub no_number : rows (ascii "user,") ≡ wrong_at 1
  pub comma_behind : rows (ascii "user,3,") ≡ wrong_at 1
  pub filled_up : rows (ascii "user,3,,\r\n") ≡ wrong_at 1
  pub one_filled_up : rows (ascii "give,1,2,\r\n") ≡ wrong_at 1
  pub comma_before_crlf : rows (ascii "user,3,\r\nrole,1") ≡ wrong_at 1
  pub one_too_many : rows (ascii "user,3,4") ≡ wrong_at 1
  pub one_too_few : rows (ascii "grant,1,2") ≡ wrong_at 1
  pub space_in_front : rows (ascii " user,3") ≡ wrong_at 1
  pub space_before_number : rows (ascii "user, 3") ≡ wrong_at 1
  pub space_behind : rows (ascii "user,3 ") ≡ wrong_at 1
  -- ---- 5: 'Each field may or may not be enclosed in double quotes', 'If fields are not enclosed with double quotes, then double quotes may not appear inside the fields'
  pub all_quoted : rows (ascii "\"user\",\"3\"\r\n") ≡ calls (AddUser 3 ∷ [])
  pub word_quoted : rows (ascii "\"give\",10,15") ≡ calls (AssignUser 10 15 ∷ [])
  pub last_quoted : rows (ascii "give,10,\"15\"") ≡ calls (AssignUser 10 15 ∷ [])
  pub quote_inside : rows (ascii "us\"er,3") ≡ wrong_at 1
  pub quote_behind : rows (ascii "user\",3") ≡ wrong_at 1
  pub unclosed : rows (ascii "\"user,3") ≡ wrong_at 1
  pub unclosed_over_lines : rows (ascii "user,3\r\n\"role,1\r\nuser,4\r\n") ≡ wrong_at 2
  pub text_behind_a_quote : rows (ascii "\"user\"x,3") ≡ wrong_at 1
  pub space_behind_a_quote : rows (ascii "\"user\" ,3") ≡ wrong_at 1
  pub space_before_a_quote : rows (ascii "user, \"3\"") ≡ wrong_at 1
  pub word_partly_quoted : rows (ascii "\"us\"er,3") ≡ wrong_at 1
  pub number_partly_quoted : rows (ascii "user,\"1\"5") ≡ wrong_at 1
  pub quotes_inside : rows (ascii "us\"er\",3") ≡ wrong_at 1
  pub empty_word : rows (ascii "\"\",3") ≡ wrong_at 1
  pub empty_number : rows (ascii "user,\"\"") ≡ wrong_at 1
  -- ---- 6: 'Fields containing line breaks (CRLF), double quotes, and commas should be enclosed in double-quotes'
  pub comma_in_quotes : rows (ascii "\"user,3\"") ≡ wrong_at 1
  pub crlf_in_quotes : rows (ascii "user,\"3\r\n\"\r\n") ≡ wrong_at 1
  pub row_in_quotes : rows (ascii "role,1\r\n\"x\r\ny\",2\r\nuser,x") ≡ wrong_at 2
  -- ---- 7: 'a double-quote appearing inside a field must be escaped by preceding it with another double quote'
  pub doubled_quote : rows (ascii "\"us\"\"er\",3") ≡ wrong_at 1
  pub doubled_at_the_end : rows (ascii "\"user\"\",3") ≡ wrong_at 1
  pub three_quotes : rows (ascii "\"user\"\"\",3") ≡ wrong_at 1
  -- ---- a field's text, and the bytes behind it
  pub plain_field : field (ascii "a b,c") ≡ read (ascii "a b") (ascii ",c")
  pub lowest_and_highest : field (ascii " !#+-~\u{7f}") ≡ read (ascii " !#+-~") (ascii "\u{7f}")
  pub control : field (ascii "a\u{1f}") ≡ read (ascii "a") (ascii "\u{1f}")
  pub no_field : field (ascii ",a") ≡ read [] (ascii ",a")
  pub quoted_field : field (ascii "\"a,\r\n\",c") ≡ read (ascii "a,\r\n") (ascii ",c")
  pub one_quote_of_two : field (ascii "\"a\"\"b\"\r\n") ≡ read (ascii "a\"b") (ascii "\r\n")
  pub a_quote_alone : field (ascii "\"\"\"\"") ≡ read (ascii "\"") []
  pub empty_quoted : field (ascii "\"\",c") ≡ read [] (ascii ",c")
  pub never_closed : field (ascii "\"a\"\"b") ≡ none
  pub control_in_quotes : field (ascii "\"\t\"") ≡ none
  -- ---- 'decimals 0 to 15 without leading zeros'
  pub lowest : rows (ascii "user,0") ≡ calls (AddUser 0 ∷ [])
  pub last_digit : rows (ascii "user,9") ≡ calls (AddUser 9 ∷ [])
  pub two_digits : rows (ascii "user,10") ≡ calls (AddUser 10 ∷ [])
  pub highest : rows (ascii "user,15") ≡ calls (AddUser 15 ∷ [])
  pub above : rows (ascii "user,16") ≡ wrong_at 1
  pub far_above : rows (ascii "user,115") ≡ wrong_at 1
  pub leading_zero : rows (ascii "user,03") ≡ wrong_at 1
  pub two_zeros : rows (ascii "user,00") ≡ wrong_at 1
  pub plus : rows (ascii "user,+3") ≡ wrong_at 1
  pub letter : rows (ascii "user,a") ≡ wrong_at 1
  -- ---- the bytes of the marks and the words
  pub marks : ascii ",\"\r\n" ≡ 44 ∷ 34 ∷ 13 ∷ 10 ∷ []
  pub user_bytes : user ≡ 117 ∷ 115 ∷ 101 ∷ 114 ∷ []
  pub role_bytes : role ≡ 114 ∷ 111 ∷ 108 ∷ 101 ∷ []
  pub perm_bytes : perm ≡ 112 ∷ 101 ∷ 114 ∷ 109 ∷ []
  pub trust_bytes : trust ≡ 116 ∷ 114 ∷ 117 ∷ 115 ∷ 116 ∷ []
  pub give_bytes : give ≡ 103 ∷ 105 ∷ 118 ∷ 101 ∷ []
  pub grant_bytes : grant ≡ 103 ∷ 114 ∷ 97 ∷ 110 ∷ 116 ∷ []
  pub attach_bytes : attach ≡ 97 ∷ 116 ∷ 116 ∷ 97 ∷ 99 ∷ 104 ∷ []
  -- ---- whole answers, with every byte of the buffer
  pub two_left : converted (ascii "user,3\r\n") 15 (9 ∷ 9 ∷ 9 ∷ 9 ∷ 9 ∷ 9 ∷ 8 ∷ 9 ∷ []) ≡ record { answer = record { error = 0; line = 0; bytes = 6 }; out = 6 ∷ 0 ∷ 5 ∷ 0 ∷ 15 ∷ 3 ∷ 8 ∷ 9 ∷ [] }
  pub just_enough : converted (ascii "give,1,2\r\n\"trust\",\"0\"") 2 (9 ∷ 9 ∷ 9 ∷ 9 ∷ 9 ∷ 9 ∷ 9 ∷ 9 ∷ 9 ∷ 9 ∷ 9 ∷ 9 ∷ 9 ∷ [])
      ≡ record { answer = record { error = 0; line = 0; bytes = 13 }; out = 7 ∷ 0 ∷ 11 ∷ 0 ∷ 2 ∷ 1 ∷ 2 ∷ 6 ∷ 0 ∷ 3 ∷ 0 ∷ 2 ∷ 0 ∷ [] }
  pub one_missing : converted (ascii "user,3") 2 (9 ∷ 9 ∷ 9 ∷ 9 ∷ 9 ∷ []) ≡ record { answer = record { error = 16; line = 0; bytes = 0 }; out = 9 ∷ 9 ∷ 9 ∷ 9 ∷ 9 ∷ [] }
  pub wrong_second : converted (ascii "user,3\r\nuser,16") 2 (9 ∷ []) ≡ record { answer = record { error = 15; line = 2; bytes = 0 }; out = 9 ∷ [] }
  pub caller_sixteen : converted (ascii "x") 16 (9 ∷ []) ≡ record { answer = record { error = 15; line = 0; bytes = 0 }; out = 9 ∷ [] }
