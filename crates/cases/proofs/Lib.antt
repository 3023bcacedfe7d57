mod CaseFacts
